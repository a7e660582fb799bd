-- The worked examples, as one table: what is asked, and what is answered. Assumes nothing.
use Rattle.std.specs.Prelude.{◌≡◌, ℕ, List, [], ◌∷◌, map, replicate, pos, negsuc, Ok, Err}
use Rattle.model.specs.Numbers.{Bytes}
use Rattle.model.specs.Faults.{fault, needing, Read, ◌>>=◌}
use Rattle.model.specs.Records.{Key, key}
use Rattle.model.specs.Book.{Answer, accept}
use Rattle.model.specs.Shipped.{shipped}
use Rattle.model.specs.Reading.{text, read_filter, Reading, class_id}
use Rattle.model.specs.Counts.{Counts, counts}
use Rattle.model.specs.Page.{Call, put, open_nest, close, State}
use Rattle.model.specs.Runs.{with_own_memory, run, answer, start, page_bytes}

pub data Question : Type 0 where
  filter : Bytes → Question
  count : Bytes → Question
  key_of : Bytes → Question
  text_of : Bytes → Question
  option : (kind_text : Bytes) (word : ℕ) → Bytes → Question
  -- the answer to the last call of a run on a page of n bytes; its bytes; how they read
  last : ℕ → List Call → Call → Question
  page : ℕ → List Call → Question
  page_reads : ℕ → List Call → Question

pub data Reply : Type 0 where
  read : Read Reading → Reply
  counted : Read Counts → Reply
  key_is : Key → Reply
  spelt : Read Bytes → Reply
  judged : Answer → Reply
  answered : Read (Unit {0}) → Reply
  holds : Bytes → Reply

abbrev pub ran : ℕ → List Call → State
ran n cs = run shipped (start (replicate n 0)) (map with_own_memory cs)

abbrev pub tell : Question → Reply
tell (filter bs) = read (read_filter shipped bs)
tell (count bs) = counted (read_filter shipped bs >>= λ r. Ok (counts r))
tell (key_of bs) = key_is (key.decode bs)
tell (text_of x) = spelt (text 0 3 x)
tell (option k w x) = judged (shipped k w x)
tell (last n cs c) = answered (answer shipped (ran n cs) (with_own_memory c))
tell (page n cs) = holds (page_bytes (ran n cs))
tell (page_reads n cs) = read (read_filter shipped (page_bytes (ran n cs)))

pub record Row : Type 0 where
  pub asked : Question
  pub reply : Reply

abbrev row : Question → Reply → Row
row q t = record { asked = q; reply = t }

abbrev tunnel_key : Bytes
tunnel_key = 0x74 ∷ 0x75 ∷ 0x6E ∷ 0x6E ∷ 0x65 ∷ 0x6C ∷ 0x5F ∷ 0x6B ∷ 0x65 ∷ 0x79 ∷ []

abbrev pub table : List Row
table =
    row (count []) (counted (Ok (record { of_options = 0; of_actions = 0; of_action_options = 0 })))
    ∷ row (filter (0x08 ∷ 0x00 ∷ 0x01 ∷ [])) (read (Err (fault 6 0 1)))
    ∷ row (filter (0x08 ∷ 0x00 ∷ 0x01 ∷ 0x00 ∷ 0x02 ∷ 0x00 ∷ 0x01 ∷ [])) (read (Err (fault 7 0 1)))
    ∷ row (filter (0x03 ∷ 0x00 ∷ 0x01 ∷ 0x00 ∷ [])) (read (Err (fault 8 0 1)))
    ∷ row (filter (0x07 ∷ 0x00 ∷ 0x01 ∷ 0x00 ∷ 0x02 ∷ 0x00 ∷ 0x01 ∷ [])) (read (Err (needing 12 0 1 4)))
    ∷ row (filter (0x08 ∷ 0x00 ∷ 0x01 ∷ 0x00 ∷ 0x02 ∷ 0x00 ∷ 0x01 ∷ 0x00 ∷ [])) (read (Ok (class_id 1 2 ∷ [])))
    ∷ row (key_of (0x0A ∷ 0 ∷ 0 ∷ 0 ∷ 0 ∷ 0 ∷ 0 ∷ 0 ∷ 0xF4 ∷ 0xFF ∷ 0xFF ∷ 0xFF ∷ 0 ∷ 0 ∷ 0 ∷ 0 ∷ [])) (key_is (record { mask = 167_772_160; val = 0; off = negsuc 11; offmask = pos 0 }))
    ∷ row (filter (0x08 ∷ 0x00 ∷ 0x07 ∷ 0x00 ∷ 0x04 ∷ 0x00 ∷ 0x01 ∷ 0x00 ∷ [])) (read (Err (fault 10 4 2)))
    ∷ row (text_of (0x6E ∷ 0x61 ∷ 0x74 ∷ 0x00 ∷ 0x00 ∷ [])) (spelt (Ok (0x6E ∷ 0x61 ∷ 0x74 ∷ 0x00 ∷ [])))
    ∷ row (option (0x6E ∷ 0x61 ∷ 0x74 ∷ 0x00 ∷ []) 0x8001 (0xAA ∷ [])) (judged (accept 0x8001 (0xAA ∷ [])))
    ∷ row (option tunnel_key 10 (0x02 ∷ [])) (judged (accept 10 (0x01 ∷ [])))
    ∷ row (last 4 [] (open_nest 7)) (answered (Ok tt))
    ∷ row (last 4 (open_nest 7 ∷ []) (put 1 [])) (answered (Err (fault 4 4 2)))
    ∷ row (page_reads 4 (open_nest 7 ∷ put 1 [] ∷ [])) (read (Err (fault 8 0 1)))
    ∷ row (page 4 (open_nest 7 ∷ put 1 [] ∷ close ∷ [])) (holds (0x04 ∷ 0x00 ∷ 0x07 ∷ 0x00 ∷ []))
    ∷ []

abbrev pub ExamplesHold : Type 0
ExamplesHold = map (λ (r : Row). tell r.asked) table ≡ map (λ (r : Row). r.reply) table
