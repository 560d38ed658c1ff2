-- The header of a text, which is ignored: the lines up to and including the first that begins with
-- `;redcode`, in letters of any case (pMARS). The word may be the beginning of a longer one.
use Rattle.std.specs.Prelude.{ℕ, Bool, true, false, ◌&&◌, ◌||◌, ◌==◌, ◌+◌, List, [], ◌∷◌, Option, Some, None, if◌then◌else◌, codes, unwrap_or}
use Rattle.rc_text.specs.declared.header.Extent.{Extent}
use Rattle.rc_text.specs.Bytes.{LINE_FEED, begins_with_word}

abbrev pub extent : ℕ → ℕ → Extent
extent bytes lines = record { bytes = bytes; lines = lines }

-- The header of a text, if any, from that of its rest: `bytes` and `lines` come before the rest.
abbrev pub further_on : ℕ → ℕ → Option Extent → Option Extent
further_on bytes lines None = None
further_on bytes lines (Some e) = Some (extent (bytes + e.bytes) (lines + e.lines))

-- The header in the rest of a text, if any; `begins` says that a line begins here, and `found` that
-- this line has begun with `;redcode`.
abbrev pub header_from : List ℕ → (begins found : Bool) → Option Extent
header_from [] begins false = None
header_from [] begins true = Some (extent 0 0)
header_from (b ∷ rest) begins found =
    let here = found || (begins && begins_with_word (codes ";redcode") (b ∷ rest)) in
    if b == LINE_FEED then (if here then Some (extent 1 1) else further_on 1 1 (header_from rest true false))
    else further_on 1 0 (header_from rest false here)

-- The bytes and lines to ignore; both are 0 without a header.
abbrev pub header_of : List ℕ → Extent
header_of text = unwrap_or (header_from text true false) (extent 0 0)
