pub mod Patterns
pub mod RoundTrip
