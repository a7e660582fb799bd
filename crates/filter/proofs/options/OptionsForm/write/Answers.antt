use Rattle.std.proofs.Common.{ℕ, ◌+◌, length, Ok, Result, sym, ap, ◌∙◌}
use Rattle.model.specs.Numbers.{Bytes}
use Rattle.model.specs.Reading.{each}
use Rattle.model.specs.Walk.{walk}
use Rattle.model.specs.declared.fault.Fault.{Fault}
use Rattle.tc_filter.specs.declared.content.Content.{Content}
use Rattle.tc_filter.specs.Leaves.{content_meant}
use Rattle.filter.specs.Summaries.{action_summary}
use Rattle.filter.specs.Writes.{at_front}
use Rattle.filter.specs.Nests.{items_of, options_of, read_in_option}
use Rattle.filter.proofs.RowWrites.{form-around_it}
use Rattle.filter.proofs.options.OptionsForm.write.Goals as goal

pub returns-in-Nest : goal.returns-in-Nest
returns-in-Nest g c =
    let m = g.B.Book.meaning c.args.self.now.book.now in
    let nest = c.in-Nest.nest in
    let reads = ap (λ (i : Content). read_in_option m (content_meant i)) (sym c.in-Nest.is) ∙ c.in_ok-leaf.ensures.reads m in
    let form = form-around_it 7 items_of options_of _ (length c.args.output.now) (each 2 (action_summary m) (walk (nest.place + 4) nest.value.now)) reads c.requires in
    record {
      value = c.write_inside.ensures.value ∙ ap {B = Result ℕ Fault} (λ (x : Bytes). Ok (length x)) form;
      after = c.write_inside.ensures.after ∙ ap (at_front c.args.output.now) form;
    }
