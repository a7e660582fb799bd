-- An action that was found, and then read with a book, is what the model reads. Assumes nothing.
use Rattle.std.proofs.Common.{◌≡◌, ℕ, ◌+◌, List, Ok, Err, Result, refl, ap, ◌∙◌, arith}
use Rattle.model.specs.Numbers.{Bytes}
use Rattle.model.specs.Attributes.{type_of}
use Rattle.model.specs.Faults.{Read, ◌>>=◌}
use Rattle.model.specs.Walk.{walk}
use Rattle.model.specs.Book.{Meaning}
use Rattle.model.specs.Reading.{kinds, the_kind, read_action}
use Rattle.model.specs.declared.fault.Fault.{Fault}
use Rattle.netlink.specs.declared.buffer.NlaBuffer.{NlaBuffer}
use Rattle.tc_filter.specs.Kinds.{place_inside, ActionFound, action_heard, action_found, action_on, action_reads, InMemory}
use Rattle.tc_filter.specs.declared.action.TcAction.{TcAction}

-- the payload begins 4 bytes behind the head
pub inside_is : (b : NlaBuffer) → InMemory b → place_inside b ≡ b.place + 4
inside_is b h = omega arith

module _ (m : Meaning) (b : NlaBuffer) (inside : InMemory b) where
  abbrev found_with : Bytes → ActionFound
  found_with k = record { tab = type_of b.word; kind_text = k; place = b.place; part = b.value.now }

  by_kinds : (l : Read (List Bytes)) → (((l >>= the_kind b.place) >>= λ k. Ok (found_with k)) >>= action_on m) ≡ (l >>= λ l. the_kind b.place l >>= λ k. action_on m (found_with k))
  by_kinds (Err e) = refl
  by_kinds (Ok l) = go (the_kind b.place l)
    where
      go : (k : Read Bytes) → ((k >>= λ k. Ok (found_with k)) >>= action_on m) ≡ (k >>= λ k. action_on m (found_with k))
      go (Ok k) = refl
      go (Err e) = refl

  pub found_reads : (r : Result TcAction Fault) → action_heard r ≡ action_found b → action_reads m r ≡ read_action m b.place b.word b.value.now
  found_reads r e =
      ap (λ (q : Read ActionFound). q >>= action_on m) e
      ∙ ap (λ (p : ℕ). ((kinds (walk p b.value.now) >>= the_kind b.place) >>= λ k. Ok (found_with k)) >>= action_on m) (inside_is b inside)
      ∙ by_kinds (kinds (walk (b.place + 4) b.value.now))
