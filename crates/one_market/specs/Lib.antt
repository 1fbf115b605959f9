pub mod OneMarket
