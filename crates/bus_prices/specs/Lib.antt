pub mod PriceParts
