use Rattle.std.proofs.Common.{◌≡◌, ◌≤◌, Some, drop}
use Rattle.script.specs.Numbers.{onward, digits}
use Rattle.script.proofs.number.digits.Given as goal

abbrev pub invariant-loop-character : goal.invariant-loop-character
invariant-loop-character l =
    (onward l.base (Some l.number) (drop l.character-index l.text) ≡ digits l.base l.text) × (l.number ≤ 16777215)
