pub mod PathLaws
