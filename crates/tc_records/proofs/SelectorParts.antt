-- A selector from its fields, and what it is written as. Assumes nothing.
use Rattle.std.proofs.Common.{◌≡◌, ℕ, ◌+◌, ◌-◌, ◌*◌, ◌%◌, ◌^◌, ◌<◌, ◌≤◌, cond, ltb, [], ◌∷◌, ◌++◌, length, get_or, take, drop, ℤ, Ok, Err, Result, sym, ap, ◌∙◌, ap₂, arith, length-drop, length-take, w8, Fits}
use Rattle.std.proofs.ByRecursion.{All-from_get_or}
use Rattle.std.proofs.lemmas.List.{take_all}
use Rattle.std.proofs.lemmas.Bool.{cond-false, le-ltb}
use Rattle.model.specs.Numbers.{Bytes, Octets, bytes_of, part, le, be, signed, le_bytes, be_bytes, signed_bytes}
use Rattle.model.specs.Selector.{Selector, wanted, keys_in, decode, encode_keys, encode}
use Rattle.model.proofs.Each.{octets_take, octets_drop}
use Rattle.model.proofs.RecordLaws.{le_back, be_back, joined, then}
use Rattle.model.proofs.Selectors.{le-lt, signs}
use Rattle.payload.specs.Errors.{Lack, lack}
use Rattle.tc_records.specs.Selectors.{selector_in}
use Rattle.tc_records.proofs.Keys.{keys_front, keys-written}
use Rattle.tc_records.proofs.Parts.{part-more, le-one}

-- bytes are below 256
pub octets : (x : Bytes) → ((i : ℕ) → Fits w8 (get_or x i 0)) → Octets x
octets x f = All-from_get_or (λ (b : ℕ). b < 256) x 0 (λ i _. (f i).fits)

-- the numbers and the keys that were found in a payload
pub record Found (x : Bytes) : Type 0 where
  pub flags : ℕ
  pub offshift : ℕ
  pub nkeys : ℕ
  pub offmask : ℕ
  pub off : ℕ
  pub offoff : ℤ
  pub hoff : ℤ
  pub hmask : ℕ
  pub keys : Bytes
  pub flags_is : flags ≡ le 0 1 x
  pub offshift_is : offshift ≡ le 1 1 x
  pub nkeys_is : nkeys ≡ le 2 1 x
  pub offmask_is : offmask ≡ be 4 2 x
  pub off_is : off ≡ le 6 2 x
  pub offoff_is : offoff ≡ signed 8 2 x
  pub hoff_is : hoff ≡ signed 10 2 x
  pub hmask_is : hmask ≡ be 12 4 x
  pub keys_are : keys ≡ part 16 (16 * le 2 1 x) x
  pub long : wanted x ≤ length x

module _ (x : Bytes) (f : Found x) where
  abbrev found : Selector
  found = record {
    flags = f.flags;
    offshift = f.offshift;
    nkeys = f.nkeys;
    offmask = f.offmask;
    off = f.off;
    offoff = f.offoff;
    hoff = f.hoff;
    hmask = f.hmask;
    keys = keys_in f.nkeys f.keys;
  }

  found_is : found ≡ decode x
  found_is =
      let ks : keys_in f.nkeys f.keys ≡ keys_in (le 2 1 x) (drop 16 x) = ap₂ keys_in f.nkeys_is f.keys_are ∙ keys_front (le 2 1 x) (drop 16 x) in
      λ i. record {
        flags = f.flags_is i;
        offshift = f.offshift_is i;
        nkeys = f.nkeys_is i;
        offmask = f.offmask_is i;
        off = f.off_is i;
        offoff = f.offoff_is i;
        hoff = f.hoff_is i;
        hmask = f.hmask_is i;
        keys = ks i;
      }

  -- it is what the payload reads as
  pub reads : Ok found ≡ selector_in x
  reads =
      let long : wanted x ≤ length x = f.long in
      ap {B = Result Selector Lack} Ok found_is
      ∙ sym (cond-false (ltb (length x) 16) (Err (lack 13 16)) (cond (ltb (length x) (wanted x)) (Err (lack 13 (wanted x))) (Ok (decode x))) (le-ltb (length x) 16 (omega arith))
      ∙ cond-false (ltb (length x) (wanted x)) (Err (lack 13 (wanted x))) (Ok (decode x)) (le-ltb (length x) (wanted x) long))

  -- ── what it is written as ──
  abbrev middle : ℕ → ℕ → ℤ → ℤ → ℕ → Bytes
  middle offmask off offoff hoff hmask = be_bytes 2 offmask ++ (le_bytes 2 off ++ (signed_bytes 2 offoff ++ (signed_bytes 2 hoff ++ be_bytes 4 hmask)))

  abbrev form : Bytes
  form = (f.flags ∷ f.offshift ∷ f.nkeys ∷ 0 ∷ middle f.offmask f.off f.offoff f.hoff f.hmask) ++ f.keys

  module _ (o : Octets x) where
    signed_back : (i : ℕ) → i + 2 ≤ length x → signed_bytes 2 (signed i 2 x) ≡ part i 2 x
    signed_back i h = ap (bytes_of 2) (signs 2 (le i 2 x) (ltb (le i 2 x) (2 ^ 15)) (le-lt i 2 x o)) ∙ le_back x o i 2 h

    middle_back : 16 ≤ length x → middle (be 4 2 x) (le 6 2 x) (signed 8 2 x) (signed 10 2 x) (be 12 4 x) ≡ part 4 12 x
    middle_back h =
        then x o 4 2 10 (be_back x o 4 2 (omega arith))
        (then x o 6 2 8 (le_back x o 6 2 (omega arith))
        (then x o 8 2 6 (signed_back 8 (omega arith))
        (then x o 10 2 4 (signed_back 10 (omega arith)) (be_back x o 12 4 (omega arith)))))

    first_three : 16 ≤ length x → take 3 x ≡ le 0 1 x ∷ le 1 1 x ∷ le 2 1 x ∷ []
    first_three h =
        part-more 0 2 x (omega arith)
        ∙ ap (λ (r : Bytes). get_or x 0 0 ∷ r) (part-more 1 1 x (omega arith) ∙ ap (λ (r : Bytes). get_or x 1 0 ∷ r) (part-more 2 0 x (omega arith)))
        ∙ (λ i. le-one 0 x (omega arith) i ∷ le-one 1 x (omega arith) i ∷ le-one 2 x (omega arith) i ∷ [])

    -- the bytes that were read, with byte 3 zero
    pub written : form ≡ take 3 x ++ (0 ∷ part 4 (wanted x - 4) x)
    written =
        let long : wanted x ≤ length x = f.long in
        let n = le 2 1 x in
        let size : 12 + 16 * n ≡ wanted x - 4 = omega arith in
        let rest : middle f.offmask f.off f.offoff f.hoff f.hmask ++ f.keys ≡ part 4 (wanted x - 4) x =
        (λ i. middle (f.offmask_is i) (f.off_is i) (f.offoff_is i) (f.hoff_is i) (f.hmask_is i) ++ f.keys_are i)
        ∙ ap (λ (r : Bytes). r ++ part 16 (16 * n) x) (middle_back (omega arith)) ∙ joined x o 4 12 (16 * n) ∙ ap (λ (k : ℕ). part 4 k x) size in
        (λ i. f.flags_is i ∷ f.offshift_is i ∷ f.nkeys_is i ∷ 0 ∷ rest i)
        ∙ ap (λ (r : Bytes). r ++ (0 ∷ part 4 (wanted x - 4) x)) (sym (first_three (omega arith)))

    small : {v : ℕ} (i : ℕ) → v ≡ le i 1 x → v ≡ v % 256
    small {v} i e = let h : le i 1 x < 256 = le-lt i 1 x o in omega arith

    -- the form that the model gives it
    pub modelled : form ≡ encode found
    modelled =
        let long : wanted x ≤ length x = f.long in
        let n = f.nkeys_is in
        let size : length f.keys ≡ 16 * f.nkeys = ap length f.keys_are ∙ simp (length-take, length-drop) (omega arith) in
        let oks : Octets (part 16 (16 * le 2 1 x) x) = octets_take (16 * le 2 1 x) (drop 16 x) (octets_drop 16 x o) in
        let ok : Octets f.keys = rw f.keys_are oks in
        let ks : f.keys ≡ encode_keys (keys_in f.nkeys f.keys) = sym (keys-written f.nkeys f.keys ok (omega arith) ∙ take_all (16 * f.nkeys) f.keys (omega arith)) in
        λ i. small 0 f.flags_is i ∷ small 1 f.offshift_is i ∷ small 2 f.nkeys_is i ∷ 0 ∷ (middle f.offmask f.off f.offoff f.hoff f.hmask ++ ks i)
