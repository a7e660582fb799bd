use Rattle.std.proofs.Common.{◌≡◌, ℕ, ◌≤◌, length, take, IfOk, Ok, Result, sym, ap, ◌∙◌, subst, Bor, arith}
use Rattle.model.specs.Numbers.{Bytes}
use Rattle.model.specs.Faults.{Read, ◌>>=◌, answered, layer_number}
use Rattle.model.specs.Reading.{each, read_filter}
use Rattle.model.specs.Walk.{Walked, walk}
use Rattle.model.specs.Writing.{written, output_after}
use Rattle.model.specs.declared.fault.Fault.{Fault}
use Rattle.model.specs.declared.fault.Layer.{Layer}
use Rattle.netlink.specs.Walking.{ahead}
use Rattle.tc.proofs.Told.{octets}
use Rattle.filter.specs.Summaries.{option_summary}
use Rattle.filter.specs.WriteOut.{written_length}
use Rattle.filter.specs.Writes.{at_front, RoomForRow, row_form}
use Rattle.filter.proofs.WriteOuts.{written_of, room, row_room, row_bytes, output_is, reads_again}
use Rattle.filter.proofs.writing.write_out.Goals as goal

pub write_each-requires : goal.write_each-requires
write_each-requires g c =
    let m = g.B.Book.meaning c.args.book.now in
    let bs = c.args.filter.now in
    let here : c.in_ok-filter.filter.bytes.now ≡ bs = ap (λ (x : Bor Bytes). x.now) c.in_ok-filter.ensures.fits in
    let k = written_of m bs c.in_ok-size.size (sym (c.length_of.ensures ∙ ap (written_length m) here) ∙ ap answered c.in_ok-size.was) in
    let free = length c.args.output.now in
    let there = subst (λ (w : Walked). RoomForRow (each 1 (option_summary m) w) free) (sym (c.row.ensures.walks ∙ ap (walk 0) here)) (row_room m bs k free (omega arith)) in
    subst (λ (l : Layer). RoomForRow (each (layer_number l) (option_summary m) (ahead c.row.result.walk)) free) (sym c.row.ensures.layer) there

pub returns : goal.returns
returns g c =
    let m = g.B.Book.meaning c.args.book.now in
    let law = g.met.B.Book.lawful c.args.book.now in
    let bs = c.args.filter.now in
    let here : c.in_ok-filter.filter.bytes.now ≡ bs = ap (λ (x : Bor Bytes). x.now) c.in_ok-filter.ensures.fits in
    let old = c.args.output.now in
    let n = c.in_ok-size.size in
    let k = written_of m bs n (sym (c.length_of.ensures ∙ ap (written_length m) here) ∙ ap answered c.in_ok-size.was) in
    let same = ap (λ (l : Layer). each (layer_number l) (option_summary m) (ahead c.row.result.walk)) c.row.ensures.layer ∙ ap (each 1 (option_summary m)) (c.row.ensures.walks ∙ ap (walk 0) here) in
    let row : row_form (each (layer_number c.row.result.walk.layer) (option_summary m) (ahead c.row.result.walk)) ≡ written k.reading = ap row_form same ∙ row_bytes m bs k in
    let value : c.write_each.result ≡ Ok n = c.write_each.ensures.value ∙ ap {B = Result ℕ Fault} (λ (x : Bytes). Ok (length x)) row ∙ ap {B = Result ℕ Fault} Ok k.size in
    let after : c.write_each.new.output ≡ output_after m old bs = c.write_each.ensures.after ∙ ap (at_front old) row ∙ output_is m bs k old (omega arith) in
    record {
      value = ap answered value ∙ ap {B = Read ℕ} (λ (i : ℕ). Ok i) (sym k.size) ∙ sym (ap (λ (q : Read Bytes). q >>= λ x. Ok (length x)) (room m bs k (length old) (omega arith)));
      after = after;
      trip = subst (λ (q : Result ℕ Fault). IfOk q (λ i. i ≤ 65531 → read_filter m (take i c.write_each.new.output) ≡ read_filter m bs)) (sym value)
          (λ short. ap (λ (o : Bytes). read_filter m (take n o)) after ∙ reads_again m bs k old law (octets bs c.type_inv.filter) (omega arith) short);
    }
