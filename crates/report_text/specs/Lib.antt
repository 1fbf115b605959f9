pub mod ReportLaws
pub mod Reports
