use Rattle.std.proofs.Common.{◌≡◌, ℕ, ◌≤◌, Bool, cond, List, length, get_or, Ok, Err, sym, ap, ◌∙◌, subst, arith, w8, Fits, rules}
use Rattle.std.proofs.lemmas.List.{at_drop_all}
use Rattle.std.proofs.lemmas.Bool.{le-ltb}
use Rattle.tc.proofs.Told.{octets}
use Rattle.model.specs.Faults.{answered, fault}
use Rattle.model.specs.Page.{state}
use Rattle.model.specs.Runs.{run, start}
use Rattle.page.specs.declared.turn.Turn.{Turn}
use Rattle.page.specs.Pages.{as_page}
use Rattle.page.specs.Turns.{turns_meant, AllFair, from_new}
use Rattle.page.proofs.Runs.{run_more, size-more, fair_more, run_agrees, run_reorders}
use Rattle.page.proofs.replay.replay.Goals as goal

pub loop-turn-preserved : goal.loop-turn-preserved
loop-turn-preserved g c =
    let m = g.B.Book.meaning c.args.book.now in
    let n = length c.args.memory.now in
    let ts = c.args.turns.now in
    let i = c.loop-turn.turn-index in
    let s = state (as_page c.loop-turn.page) c.loop-turn.memory in
    let t = state (as_page c.take_turn.new.page) c.take_turn.new.memory in (
      run_more m n ts i _ c.loop-turn-test.true s t c.loop-turn.invariant.1 (answered c.take_turn.result) c.take_turn.ensures.outcome _ c.loop-turn.invariant.0,
      size-more m n ts i _ c.loop-turn-test.true s t c.loop-turn.invariant.1 (answered c.take_turn.result) c.take_turn.ensures.outcome,
      fair_more m n ts i _ c.loop-turn-test.true s t c.loop-turn.invariant.1 (answered c.take_turn.result) c.take_turn.ensures.outcome c.take_turn.ensures.fair c.loop-turn.invariant.2,
    )

pub returns : goal.returns
returns g c =
    let m = g.B.Book.meaning c.args.book.now in
    let mem = c.args.memory.now in
    let n = length mem in
    let ts = c.args.turns.now in
    let bytes : (i : ℕ) → Fits w8 (get_or mem i 0) = search rules in
    let s = state (as_page c.loop-turn.page) c.loop-turn.memory in
    let left : s ≡ run m (start mem) (turns_meant n ts) = sym (at_drop_all (λ xs. run m s (turns_meant n xs)) ts c.loop-turn.turn-index c.loop-turn-test.false) ∙ c.loop-turn.invariant.0 in
    let fair : AllFair n (turns_meant n ts) = c.loop-turn.invariant.2 (subst (λ (xs : List Turn). AllFair n (turns_meant n xs)) (sym (at_drop_all (λ (xs : List Turn). xs) ts c.loop-turn.turn-index c.loop-turn-test.false)) tt) in
    let size : c.loop-turn.page.size ≡ n = c.loop-turn.invariant.1 in
    let small : n ≤ 65531 = omega arith in
    record {
      value = (λ i. record { page = Ok (left i).page; memory = (left i).memory }) ∙ sym (ap (λ (b : Bool). from_new (cond b (Err (fault 1 0 1)) (Ok (start mem).page)) (run m (start mem) (turns_meant n ts)) mem) (le-ltb 65531 n small));
      agrees = run_agrees m (g.met.B.Book.lawful c.args.book.now) mem (octets mem bytes) small (turns_meant n ts) fair s left;
      free = run_reorders m (g.met.B.Book.lawful c.args.book.now) mem (octets mem bytes) small (turns_meant n ts) fair s left;
    }
