use Rattle.std.proofs.Common.{◌≤◌, length, Ok, sym, ap, ◌∙◌, subst, arith}
use Rattle.std.proofs.lemmas.Bool.{le-ltb, cond-false}
use Rattle.model.specs.Faults.{Read}
use Rattle.model.specs.Page.{Page, State}
use Rattle.model.proofs.Pages.{every_filter_is_a_page}
use Rattle.tc.proofs.Told.{octets}
use Rattle.page.specs.Reaching.{ReachesEveryFilter}
use Rattle.page.proofs.page.Page.new.Goals as goal

pub returns : goal.returns
returns c =
    let mem = c.args.memory.now in
    let small : length mem ≤ 65531 = omega arith in
    record {
      value = ap {B = Read Page} (λ (s : State). Ok s.page) c.blank.ensures ∙ sym (cond-false _ _ _ (le-ltb 65531 (length mem) small));
      reaches =
          subst (λ (s : State). ReachesEveryFilter s) (sym c.blank.ensures) (λ m laws bs o r reads fits.
          let k = every_filter_is_a_page m laws bs o r reads (omega arith) mem (octets mem c.type_inv.memory) (sym fits) in
          (k.0, (k.1.0, record { bytes = k.1.1; nests = k.1.2 })));
    }
