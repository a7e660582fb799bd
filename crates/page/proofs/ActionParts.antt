-- The part of a page's memory that an action takes, up to the used length. Assumes nothing.
use Rattle.std.proofs.Common.{◌≡◌, ℕ, ◌+◌, ◌≤◌, length, take, sym, ap, ◌∙◌, arith}
use Rattle.std.proofs.lemmas.List.{length-take-le}
use Rattle.std.proofs.lemmas.Slice.{between_is}
use Rattle.std.proofs.lemmas.Bool.{le-ltb, cond-false}
use Rattle.model.specs.Numbers.{Bytes}
use Rattle.model.specs.Book.{Meaning}
use Rattle.model.specs.Reading.{read_action}
use Rattle.model.specs.Page.{Page, only_fault, action_at}
use Rattle.filter.specs.Reads.{action_reads_at}

pub action-part : (m : Meaning) (mem : Bytes) (g : Page) (h : ℕ) → g.used ≤ length mem → g.used ≤ 65531 → h + 4 ≤ g.used → action_reads_at m (take g.used mem) h ≡ action_at m mem g h
action-part m mem g h fits small behind =
    let size : length (take g.used mem) ≡ g.used = length-take-le g.used mem (omega arith) in
    cond-false _ _ _ (le-ltb 65531 (length (take g.used mem)) (omega arith))
    ∙ cond-false _ _ _ (le-ltb (length (take g.used mem)) (h + 4) (omega arith))
    ∙ ap (λ (x : Bytes). only_fault (read_action m h 0 x)) (sym (between_is mem (h + 4) g.used))
