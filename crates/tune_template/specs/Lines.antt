-- Lines of a template, and their words.
use Rattle.std.specs.Prelude.{ℕ, Bool, true, ◌&&◌, ◌==◌, List, [], ◌∷◌, ◌++◌, take, drop, if◌then◌else◌, codes}
use Rattle.std.specs.Str.{bytes_eq}
use Rattle.rc_text.specs.Bytes.{LINE_FEED, is_blank}

-- The lines of a text whose first line has begun with `front`.
abbrev pub lines_from : List ℕ → List ℕ → List (List ℕ)
lines_from front [] = front ∷ []
lines_from front (b ∷ rest) = if b == LINE_FEED then front ∷ lines_from [] rest else lines_from (front ++ (b ∷ [])) rest

-- A line ends at a line feed or at the end of the text.
abbrev pub lines_of : List ℕ → List (List ℕ)
lines_of text = lines_from [] text

-- A word before the words after it; an empty one is left out.
abbrev pub with_word : List ℕ → List (List ℕ) → List (List ℕ)
with_word [] words = words
with_word (b ∷ front) words = (b ∷ front) ∷ words

-- The words of a line whose first word has begun with `front`.
abbrev pub words_from : List ℕ → List ℕ → List (List ℕ)
words_from front [] = with_word front []
words_from front (b ∷ rest) = if is_blank b then with_word front (words_from [] rest) else words_from (front ++ (b ∷ [])) rest

-- The words of a line, separated by blanks.
abbrev pub words_of : List ℕ → List (List ℕ)
words_of line = words_from [] line

-- An empty text begins blank.
abbrev pub begins_blank : List ℕ → Bool
begins_blank [] = true
begins_blank (b ∷ rest) = is_blank b

-- A range line begins with `;@tune`, and then has a blank or ends.
abbrev pub is_range_line : List ℕ → Bool
is_range_line line = bytes_eq (take 6 line) (codes ";@tune") && begins_blank (drop 6 line)

-- The words of a range line, without the 6 bytes of `;@tune`.
abbrev pub words_after_tune : List ℕ → List (List ℕ)
words_after_tune line = words_of (drop 6 line)
