pub mod WaveLaws
pub mod GuaranteeClaims
pub mod AnswerClaims
