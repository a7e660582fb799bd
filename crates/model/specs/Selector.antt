-- The selector of a filter: 16 bytes, then its keys. Assumes nothing.
use Rattle.std.specs.Prelude.{ℕ, zero, suc, ◌+◌, ◌*◌, List, [], ◌∷◌, ◌++◌, drop, ℤ}
use Rattle.model.specs.Numbers.{Bytes, le, be, signed, le_bytes, be_bytes, signed_bytes}
use Rattle.model.specs.Records.{Key, key}

-- a selector has as many keys as `nkeys` says
pub record Selector : Type 0 where
  pub flags : ℕ
  pub offshift : ℕ
  pub nkeys : ℕ
  pub offmask : ℕ
  pub off : ℕ
  pub offoff : ℤ
  pub hoff : ℤ
  pub hmask : ℕ
  pub keys : List Key

-- the length that the payload wants: 16, and then by its third byte
abbrev pub wanted : Bytes → ℕ
wanted x = 16 + 16 * le 2 1 x

abbrev pub keys_in : ℕ → Bytes → List Key
keys_in zero bs = []
keys_in (suc n) bs = key.decode bs ∷ keys_in n (drop 16 bs)

abbrev pub decode : Bytes → Selector
decode x = record {
  flags = le 0 1 x;
  offshift = le 1 1 x;
  nkeys = le 2 1 x;
  offmask = be 4 2 x;
  off = le 6 2 x;
  offoff = signed 8 2 x;
  hoff = signed 10 2 x;
  hmask = be 12 4 x;
  keys = keys_in (le 2 1 x) (drop 16 x);
}

abbrev pub encode_keys : List Key → Bytes
encode_keys [] = []
encode_keys (k ∷ ks) = key.encode k ++ encode_keys ks

-- byte 3 is written zero
abbrev pub encode : Selector → Bytes
encode s =
    (le_bytes 1 s.flags ++ (le_bytes 1 s.offshift ++ (le_bytes 1 s.nkeys ++ (0 ∷ (be_bytes 2 s.offmask ++
    (le_bytes 2 s.off ++ (signed_bytes 2 s.offoff ++ (signed_bytes 2 s.hoff ++ be_bytes 4 s.hmask))))))))
    ++ encode_keys s.keys
