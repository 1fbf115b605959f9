pub mod WrittenItems
