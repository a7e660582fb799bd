use Rattle.std.proofs.Common.{◌≡◌, ◌%◌, false, not, eqb, IsErrAnd, Err, Result, ap, ◌∙◌}
use Rattle.std.proofs.lemmas.Bool.{ne_eqb}
use Rattle.std.proofs.lemmas.Result.{err_from_is_err_and}
use Rattle.model.specs.Numbers.{Bytes}
use Rattle.model.specs.Faults.{numbers, answered}
use Rattle.model.specs.Page.{state}
use Rattle.model.specs.declared.fault.Fault.{Fault}
use Rattle.page.specs.declared.page.Page.{Page}
use Rattle.page.specs.Pages.{as_page}
use Rattle.page.specs.Steps.{outcome}
use Rattle.page.specs.declared.level.Level.TheVariants.{Root, Action}
use Rattle.page.proofs.Decisions.{put_written, put_unread}
use Rattle.page.proofs.page.Page.perform.Goals as goal

-- what a put that does not read by itself leaves
stopped : (p : Page) (mem : Bytes) (r : Result (Unit {0}) Fault) (f : Fault) → IsErrAnd r (λ y. y ≡ f) → outcome (answered r) (state (as_page p) mem) ≡ outcome (Err (numbers f)) (state (as_page p) mem)
stopped p mem r f h =
    let q = err_from_is_err_and r h in
    ap (λ (z : Result (Unit {0}) Fault). outcome (answered z) (state (as_page p) mem)) (q.1 ∙ ap {B = Result (Unit {0}) Fault} Err q.2)

pub returns-in_err-reads_as_option-in-Root-Put : goal.returns-in_err-reads_as_option-in-Root-Put
returns-in_err-reads_as_option-in-Root-Put g c =
    let m = g.B.Book.meaning c.args.book.now in
    let a = c.in-Root-Put in
    let f = c.in_err-reads_as_option-in-Root-Put.field-0.0 in
    let belongs : eqb (a.word % 16384) 7 ≡ false = ne_eqb (a.word % 16384) 7 c.if-word-ne-TCA_U32_ACT.true in
    stopped c.args.self.now c.args.memory.now c.from_residual-in_err-reads_as_option-in-Root-Put.result f c.from_residual-in_err-reads_as_option-in-Root-Put.ensures.1
    ∙ put_unread m c.args.self.now c.args.memory.now _ c.in_ok-lent.ensures c.args.call Root a.is-0 a.word a.value a.is-1 (ap not belongs)
    (numbers f) (c.in_err-reads_as_option-in-Root-Put.ensures m)

pub returns-in_err-reads_as_attribute-in-Action-Put : goal.returns-in_err-reads_as_attribute-in-Action-Put
returns-in_err-reads_as_attribute-in-Action-Put g c =
    let m = g.B.Book.meaning c.args.book.now in
    let a = c.in-Action-Put in
    let f = c.in_err-reads_as_attribute-in-Action-Put.field-0.0 in
    let belongs : eqb (a.word % 16384) 2 ≡ false = ne_eqb (a.word % 16384) 2 c.if-word-ne-TCA_ACT_OPTIONS.true in
    stopped c.args.self.now c.args.memory.now c.from_residual-in_err-reads_as_attribute-in-Action-Put.result f c.from_residual-in_err-reads_as_attribute-in-Action-Put.ensures.1
    ∙ put_unread m c.args.self.now c.args.memory.now _ c.in_ok-lent.ensures c.args.call (Action a.field-0-0 a.field-1-0) a.is-0 a.word a.value a.is-1 (ap not belongs)
    (numbers f) (c.in_err-reads_as_attribute-in-Action-Put.ensures m)

pub returns-in_ok-reads_as_option-in-Root-Put : goal.returns-in_ok-reads_as_option-in-Root-Put
returns-in_ok-reads_as_option-in-Root-Put g c =
    let m = g.B.Book.meaning c.args.book.now in
    let w = c.in-Root-Put.word in
    let belongs : eqb (w % 16384) 7 ≡ false = ne_eqb (w % 16384) 7 c.if-word-ne-TCA_U32_ACT.true in
    c.append.ensures
    ∙ put_written m c.args.self.now c.args.memory.now _ c.in_ok-lent.ensures c.args.call Root c.in-Root-Put.is-0 w c.in-Root-Put.value c.in-Root-Put.is-1 (ap not belongs)
    (c.in_ok-reads_as_option-in-Root-Put.ensures m)

pub returns-in_ok-reads_as_attribute-in-Action-Put : goal.returns-in_ok-reads_as_attribute-in-Action-Put
returns-in_ok-reads_as_attribute-in-Action-Put g c =
    let m = g.B.Book.meaning c.args.book.now in
    let a = c.in-Action-Put in
    let belongs : eqb (a.word % 16384) 2 ≡ false = ne_eqb (a.word % 16384) 2 c.if-word-ne-TCA_ACT_OPTIONS.true in
    c.append-in-Action-Put.ensures
    ∙ put_written m c.args.self.now c.args.memory.now _ c.in_ok-lent.ensures c.args.call (Action a.field-0-0 a.field-1-0) a.is-0 a.word a.value a.is-1 (ap not belongs)
    (c.in_ok-reads_as_attribute-in-Action-Put.ensures m)
