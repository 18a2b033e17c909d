-- The number by which a stage is told.
use Rattle.std.specs.Prelude.{ℕ}
use Rattle.pairing.specs.declared.stage.Stage.{Stage}
use Rattle.pairing.specs.declared.stage.Stage.TheVariants.{Member, Clearing, Agent, Whole}

-- Stages count from 1: by member, by clearing member, by payment agent and over the whole book.
abbrev pub stage_number : Stage → ℕ
stage_number Member = 1
stage_number Clearing = 2
stage_number Agent = 3
stage_number Whole = 4
