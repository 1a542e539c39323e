-- What the crates above name of `redlog_printer`.
pub use Rattle.redlog_printer.specs.Within.{AreAnswersWithin}
pub use Rattle.redlog_printer.specs.Within.{AreCasesWithin}
pub use Rattle.redlog_printer.specs.Within.{IsPlaceWithin}
pub use Rattle.redlog_printer.specs.declared.error.PrintError.TheVariants as print_error_variants
pub use Rattle.redlog_printer.specs.declared.error.PrintError.{PrintError}
