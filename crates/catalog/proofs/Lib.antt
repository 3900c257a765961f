pub mod ListingLaws
pub mod TotalClaims
pub mod ListingClaims
