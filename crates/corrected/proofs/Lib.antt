pub mod CorrectedLaws
