-- A step, and then the rest, is the whole. Assumes nothing.
use Rattle.std.proofs.Common.{refl}
use Rattle.model.specs.Walk.{done, bad, item}
use Rattle.cursors.specs.Steps.{ReadsStepByStep, StepsMakeTheReading}

whole : {A : Type 0} → ReadsStepByStep A
whole layer f done = refl
whole layer f (bad c p) = refl
whole layer f (item p w x rest) = refl

pub steps_make_the_reading : StepsMakeTheReading
steps_make_the_reading = record { of_options = whole; of_actions = whole; of_attributes = whole; of_action_options = whole }
