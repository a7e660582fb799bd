-- The table of 256 first-byte lengths follows the rule, shown by one computed test over the whole table. Assumes nothing.
use Rattle.std.proofs.Common.{◌≡◌, ℕ, ◌+◌, ◌*◌, ◌/◌, ◌%◌, ◌<◌, Bool, ◌&&◌, T, eqb, List, [], ◌∷◌, ◌++◌, length, get_or, replicate, ap, ◌∙◌, arith, eqb→eq}
use Rattle.model.specs.Text.{first_length}
use Rattle.payload.proofs.Table.{every, at, left_of, right_of}

-- the table's rows
abbrev pub rows : List (List ℕ)
rows =
    replicate 8 (replicate 16 1) ++ (replicate 4 (replicate 16 0)
    ++ ((0 ∷ 0 ∷ replicate 14 2) ∷ replicate 16 2 ∷ replicate 16 3 ∷ (replicate 5 4 ++ replicate 11 0) ∷ []))

-- a row has 16 entries, and each is the rule's
abbrev row_test : ℕ → List ℕ → Bool
row_test r row = eqb (length row) 16 && every (λ c x. eqb x (first_length (r * 16 + c))) 0 row

pub by_table : (k : ℕ) → k < 256 → get_or (get_or rows (k / 16) []) (k % 16) 0 ≡ first_length k
by_table k h =
    let row = get_or rows (k / 16) [] in
    let t : T (row_test (k / 16) row) = at row_test [] rows tt (k / 16) (omega arith) in
    let long : length row ≡ 16 = eqb→eq (length row) 16 (left_of (eqb (length row) 16) _ t) in
    let here : T (eqb (get_or row (k % 16) 0) (first_length (k / 16 * 16 + k % 16))) =
    at (λ c x. eqb x (first_length (k / 16 * 16 + c))) 0 row (right_of (eqb (length row) 16) _ t) (k % 16) (omega arith) in
    let whole : k / 16 * 16 + k % 16 ≡ k = omega arith in
    eqb→eq (get_or row (k % 16) 0) _ here ∙ ap first_length whole
