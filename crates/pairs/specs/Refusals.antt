-- The numbers of refusals, and their texts.
use Rattle.std.specs.Prelude.{ℕ, List, codes}
use Rattle.pairs.specs.declared.fault.PairingFault.{PairingFault}
use Rattle.pairs.specs.declared.fault.PairingFault.TheVariants.{FewLines, FewRecords}

-- A table that is too small.
abbrev pub number : PairingFault → ℕ
number FewLines = 15
number FewRecords = 15

abbrev pub told : PairingFault → List ℕ
told FewLines = codes "the table of lines is too small"
told FewRecords = codes "there are too few records"
