-- One book over another keeps the laws where both do, and the book that refuses everything keeps them. Assumes nothing.
use Rattle.std.specs.Prelude.{◌≡◌, ℕ, Bool, true, false, cond}
use Rattle.std.proofs.Common.{arith}
use Rattle.std.specs.Str.{bytes_eq}
use Rattle.model.specs.Numbers.{Bytes}
use Rattle.model.specs.Book.{Answer, Meaning, BookLaws}
use Rattle.tc.specs.Piles.{piled, closed}

-- a book under one kind
abbrev Under : Type 0
Under = ℕ → Bytes → Answer

abbrev LawsUnder : Under → Type 0
LawsUnder f = BookLaws (λ _. f)

-- a book keeps the laws just where it keeps them under each kind
under : (m : Meaning) → BookLaws m → (k : Bytes) → LawsUnder (m k)
under m l k = record {
  shorter = λ _. l.shorter k;
  settled = λ _. l.settled k;
  word16 = λ _. l.word16 k;
  octets = λ _. l.octets k;
  numbered = λ _. l.numbered k;
}

under_each : (m : Meaning) → ((k : Bytes) → LawsUnder (m k)) → BookLaws m
under_each m h = record {
  shorter = λ k. (h k).shorter k;
  settled = λ k. (h k).settled k;
  word16 = λ k. (h k).word16 k;
  octets = λ k. (h k).octets k;
  numbered = λ k. (h k).numbered k;
}

picked : (t : Bool) (f g : Under) → LawsUnder f → LawsUnder g → LawsUnder (λ w x. cond t (f w x) (g w x))
picked true f g a b = a
picked false f g a b = b

pub piled_laws : (kind : Bytes) (top below : Meaning) → BookLaws top → BookLaws below → BookLaws (piled kind top below)
piled_laws kind top below l m =
    under_each (piled kind top below) (λ k. picked (bytes_eq k kind) (top k) (below k) (under top l k) (under below m k))

pub closed_laws : BookLaws closed
closed_laws = record {
  shorter = λ k w x w' x' e. cc;
  settled = λ k w x w' x' e. cc;
  word16 = λ k w x w' x' h e. cc;
  octets = λ k w x w' x' o e. cc;
  numbered = λ k w x n need e. let same : 7 ≡ n = cc in (omega arith, omega arith);
}
