pub mod ResidualLines
