pub mod VersionLaws
pub mod JoinLaws
pub mod RowLaws
pub mod ImportClaims
pub mod ExportClaims
pub mod TripClaims
pub mod NearClaims
pub mod CsvCases
