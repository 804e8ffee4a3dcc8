-- What is still to come of a scan, resolved; a statement; a token; the scan.
pub mod Resolved
pub mod Statements
pub mod Steps
pub mod Scanning
