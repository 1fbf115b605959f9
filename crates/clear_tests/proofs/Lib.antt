pub mod WorkedMarkets
