-- A store of cells as contracts see it; and cells in words, with a journal of those that were
-- written.
use Rattle.std.specs.Prelude.{◌≡◌, ℕ, ◌+◌, ◌<◌, ◌≤◌, Bool, true, false, if◌then◌else◌, List, length, take, map, slice_index, slice_index_or, All, Contains, count_by, ◌⊎◌}
use Rattle.rc_instr.specs.declared.instruction.Instruction.{Instruction}
use Rattle.mars_core.specs.Packed.{unpacked, is_marked, empty_word, IsClassed}

-- The instructions in the cells, whether each cell is marked, and the number of marks.
pub record StoreView : Type 0 where
  pub items : List Instruction
  pub marked : List Bool
  pub marks : ℕ

-- Whether a word counts as marked: each does if the journal is closed.
abbrev pub counts_as_marked : Bool → ℕ → Bool
counts_as_marked is_open word = if is_open then is_marked word else true

-- The view of packed words with a journal of `count` addresses, which is open or closed.
abbrev pub packed_view : List ℕ → ℕ → Bool → StoreView
packed_view words count is_open = record { items = map unpacked words; marked = map (counts_as_marked is_open) words; marks = if is_open then count else length words }

-- The marks after the cell at an address is marked: one more if it was not.
abbrev pub marks_after : List Bool → ℕ → ℕ → ℕ
marks_after marked at marks = if slice_index_or marked at true then marks else marks + 1

-- The first `count` items of the journal are the addresses of the marked cells, and it has room for
-- those of all cells. A cell without a mark is empty. No word keeps a wrong class.
pub record IsStore (words journal : List ℕ) (count : ℕ) : Type 0 where
  pub small : length words ≤ 65535
  pub room : length journal ≡ length words
  pub counted : count ≡ count_by is_marked words
  pub empty : (k : ℕ) → k < length words → is_marked (slice_index words k) ≡ false → slice_index words k ≡ empty_word
  pub listed : (k : ℕ) → k < length words → is_marked (slice_index words k) ≡ true → Contains (take count journal) k
  pub within : All (λ j. j < length words) (take count journal)
  pub classed : All IsClassed words

-- Words without a wrong class, and a journal with room for all their addresses. An open journal
-- lists the words that are marked.
pub record IsPacked (words journal : List ℕ) (count : ℕ) (is_open : Bool) : Type 0 where
  pub small : length words ≤ 65535
  pub room : length journal ≡ length words
  pub classed : All IsClassed words
  pub listed : is_open ≡ true → IsStore words journal count

-- A word that is not the empty one has its address in the journal.
pub record ListsWritten (words journal : List ℕ) : Type 0 where
  pub within : All (λ j. j < length words) journal
  pub listed : (k : ℕ) → k < length words → (slice_index words k ≡ empty_word) ⊎ Contains journal k
