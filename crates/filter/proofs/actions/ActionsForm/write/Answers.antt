use Rattle.std.proofs.Common.{ℕ, ◌+◌, length, Ok, Result, sym, ap, ◌∙◌, subst}
use Rattle.model.specs.Numbers.{Bytes}
use Rattle.model.specs.Attributes.{type_of}
use Rattle.model.specs.Reading.{each}
use Rattle.model.specs.Walk.{walk}
use Rattle.model.specs.declared.fault.Fault.{Fault}
use Rattle.filter.specs.Summaries.{attribute_summary}
use Rattle.filter.specs.Nests.{none, options_of}
use Rattle.filter.specs.Writes.{at_front, RoomAround, form_around}
use Rattle.filter.proofs.ActionsRead.{action-as_read, action-tab}
use Rattle.filter.proofs.RowWrites.{room_around, form-around_it}
use Rattle.filter.proofs.actions.ActionsForm.write.Goals as goal

pub write_inside-requires : goal.write_inside-requires
write_inside-requires g c =
    let m = g.B.Book.meaning c.args.self.now.book.now in
    let b = c.args.part.now.nla in
    let a = c.in_ok-action.action in
    let row = walk (b.place + 4) b.value.now in
    let reads = action-as_read b m c.args.part.now.inside c.parse.result a c.parse.ensures.found c.in_ok-action.was in
    let room = room_around (type_of b.word) none options_of _ (length c.args.output.now) (each 3 (attribute_summary m a.kind.now) row) reads c.requires in
    subst (λ (k : Bytes). RoomAround (each 3 (attribute_summary m k) row) (length c.args.output.now)) (sym c.as_bytes.ensures.value) room

pub returns : goal.returns
returns g c =
    let m = g.B.Book.meaning c.args.self.now.book.now in
    let b = c.args.part.now.nla in
    let a = c.in_ok-action.action in
    let row = walk (b.place + 4) b.value.now in
    let reads = action-as_read b m c.args.part.now.inside c.parse.result a c.parse.ensures.found c.in_ok-action.was in
    let tab = action-tab b c.parse.result a c.parse.ensures.found c.in_ok-action.was in
    let form =
    ap (λ (k : Bytes). form_around a.tab (each 3 (attribute_summary m k) row)) c.as_bytes.ensures.value
    ∙ ap (λ (t : ℕ). form_around t (each 3 (attribute_summary m a.kind.now) row)) tab
    ∙ form-around_it (type_of b.word) none options_of _ (length c.args.output.now) (each 3 (attribute_summary m a.kind.now) row) reads c.requires in
    record {
      value = c.write_inside.ensures.value ∙ ap {B = Result ℕ Fault} (λ (x : Bytes). Ok (length x)) form;
      after = c.write_inside.ensures.after ∙ ap (at_front c.args.output.now) form;
    }
