-- What stands where there is no sui. Assumes nothing: this is a definition.
use Rattle.std.specs.Prelude.{replicate}
use Rattle.months.specs.declared.Sui.{Sui}
use Rattle.months.specs.Handles.{no_month}

abbrev pub no_sui : Sui
no_sui = record { count = 0; months = replicate 13 no_month }
