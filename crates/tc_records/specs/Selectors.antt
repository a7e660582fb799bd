-- The selector of the code is that of the model; what a payload reads as, and what a selector is written as. Assumes nothing.
use Rattle.std.specs.Prelude.{◌≡◌, ◌≤◌, ℕ, zero, suc, cond, List, [], ◌∷◌, ◌++◌, length, Some, None, Ok, Err, Option, Result, nat_lt}
use Rattle.model.specs.Numbers.{Bytes, le, be, signed, le_bytes, be_bytes, signed_bytes}
use Rattle.model.specs.Faults.{cause_number}
use Rattle.model.specs.Records.{Key}
use Rattle.model.specs.Selector.{Selector, wanted, keys_in, decode}
use Rattle.payload.specs.Errors.{Lack, lack}
use Rattle.payload.specs.declared.error.DecodeError.{DecodeError}
use Rattle.tc_records.specs.Layouts.{of_key}
use Rattle.tc_records.specs.declared.cls_u32.TcU32Key.{TcU32Key}
use Rattle.tc_records.specs.declared.selector.TcU32Selector.{TcU32Selector}

abbrev pub as_selector : TcU32Selector → Selector
as_selector s = record {
  flags = s.flags;
  offshift = s.offshift;
  nkeys = s.nkeys;
  offmask = s.offmask;
  off = s.off;
  offoff = s.offoff;
  hoff = s.hoff;
  hmask = s.hmask;
  keys = keys_in s.nkeys s.keys.now;
}

abbrev pub selected : Result TcU32Selector DecodeError → Result Selector Lack
selected (Ok s) = Ok (as_selector s)
selected (Err e) = Err (lack (cause_number e.cause) e.need)

-- the numbers of the selector stand at the front of the bytes
pub record HeadIn (x : Bytes) (s : TcU32Selector) : Type 0 where
  pub long : 16 ≤ length x
  pub flags : s.flags ≡ le 0 1 x
  pub offshift : s.offshift ≡ le 1 1 x
  pub nkeys : s.nkeys ≡ le 2 1 x
  pub offmask : s.offmask ≡ be 4 2 x
  pub off : s.off ≡ le 6 2 x
  pub offoff : s.offoff ≡ signed 8 2 x
  pub hoff : s.hoff ≡ signed 10 2 x
  pub hmask : s.hmask ≡ be 12 4 x

-- 16 bytes, and then as many as the third byte wants; else cause 13, with the length wanted
abbrev pub selector_in : Bytes → Result Selector Lack
selector_in x = cond (nat_lt (length x) 16) (Err (lack 13 16)) (cond (nat_lt (length x) (wanted x)) (Err (lack 13 (wanted x))) (Ok (decode x)))

-- the i-th of some keys, counted from 0
abbrev pub nth_key : List Key → ℕ → Option TcU32Key
nth_key [] i = None
nth_key (k ∷ ks) zero = Some (of_key k)
nth_key (k ∷ ks) (suc i) = nth_key ks i

-- the first 16 bytes of what is written: byte 3 is zero
abbrev pub selector_head : TcU32Selector → Bytes
selector_head s =
    s.flags ∷ s.offshift ∷ s.nkeys ∷ 0
    ∷ (be_bytes 2 s.offmask ++ (le_bytes 2 s.off ++ (signed_bytes 2 s.offoff ++ (signed_bytes 2 s.hoff ++ be_bytes 4 s.hmask))))

-- the keys are written as they are
abbrev pub selector_form : TcU32Selector → Bytes
selector_form s = selector_head s ++ s.keys.now
