pub mod Constraints
pub mod Stops
pub mod Rows
pub mod Search
pub mod Found
pub mod CertificateSearchStops
pub mod Certificates
