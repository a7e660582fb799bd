use Rattle.std.proofs.Common.{◌≡◌, ◌++◌, drop, vec_items}
use Rattle.hexadecimal.specs.PlainText.{kept, without_remarks}
use Rattle.hexadecimal.proofs.plain_text.without_remarks.Given as goal

abbrev pub invariant-loop-character : goal.invariant-loop-character
invariant-loop-character l =
    vec_items l.found ++ kept l.in_comment (drop l.character-index l.text) ≡ without_remarks l.text
