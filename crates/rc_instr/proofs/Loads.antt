-- Load files: the lines of code, and the whole.
use Rattle.std.proofs.Common.{◌≡◌, ℕ, zero, suc, ◌+◌, ◌<◌, ◌≤◌, List, [], ◌∷◌, ◌++◌, length, refl, sym, ◌∙◌, ap, subst, arith, append_assoc, append-nil, Some, None, Ok, Err}
use Rattle.std.specs.Prelude.{Option, Result, All, MatchResult}
use Rattle.std.specs.Option.{ok_or, option_map, unwrap_or}
use Rattle.std.proofs.lemmas.List.Elements.{All-nil, All-head, All-tail, All-cons}
use Rattle.rc_instr.specs.Results.{with_fault, and_then, Returns}
use Rattle.rc_instr.specs.Rules.{RulesView, IsRules}
use Rattle.rc_instr.specs.Warrior.{WarriorView, warrior_view, IsBelow, IsWarrior, Fits}
use Rattle.rc_instr.specs.Checks.{warrior_of}
use Rattle.rc_instr.specs.LoadText.{line_text, start_text, code_text, load_text}
use Rattle.rc_instr.specs.LoadReaders.{opcode_at, head_at, line_at, start_at}
use Rattle.rc_instr.specs.LoadMeaning.{IsOutOfMemory, with_line, lines_from, lines_at, only_lines, code_of, load_meaning}
use Rattle.rc_instr.specs.declared.instruction.Instruction.{Instruction}
use Rattle.rc_instr.specs.declared.loadfile.fault.LoadFault.{LoadFault}
use Rattle.rc_instr.specs.declared.loadfile.fault.LoadFault.TheVariants.{Malformed, Warrior, OutOfMemory}
use Rattle.rc_instr.specs.declared.warrior.WarriorError.{WarriorError}
use Rattle.rc_instr.proofs.Chains.{went_on, ok_of}
use Rattle.rc_instr.proofs.CheckSteps.{warrior_fits, warrior_passes}
use Rattle.rc_instr.proofs.LoadReading.{line_read, line_is, start_read, start_is, line_shorter}

some_of : {A E : Type 0} (o : Option A) (e : E) (x : A) → ok_or o e ≡ Ok x → o ≡ Some x
some_of (Some y) e x h = let q : y ≡ x = cc in ap Some q
some_of None e x h = absurd (cc)

-- the rest of a line is shorter
pub shorter : (m : ℕ) (bytes : List ℕ) (i : Instruction) (rest : List ℕ) → 0 < m → line_at m bytes ≡ Some (i, rest) → length rest < length bytes
shorter m bytes i rest k e = let l = line_is m bytes i rest k e in line_shorter m i bytes rest l.text

nothing_read : (m : ℕ) → line_at m [] ≡ None
unfolding line_at head_at opcode_at
nothing_read m = refl

-- more steps than bytes change nothing
enough : (m n k : ℕ) (bytes : List ℕ) → 0 < m → length bytes ≤ n → length bytes ≤ k → lines_from m n bytes ≡ lines_from m k bytes
enough m n k [] p h g = none m n ∙ sym (none m k) where
  none : (m n : ℕ) → lines_from m n [] ≡ ([], [])
  none m zero = refl
  none m (suc n) = rw (nothing_read m) refl
enough m zero k (b ∷ bytes) p h g = absurd (omega arith)
enough m (suc n) zero (b ∷ bytes) p h g = absurd (omega arith)
enough m (suc n) (suc k) (b ∷ bytes) p h g = by_line (line_at m (b ∷ bytes)) refl (λ rest a c. enough m n k rest p a c) where
  by_line : (o : Option (Instruction × List ℕ)) → line_at m (b ∷ bytes) ≡ o → ((rest : List ℕ) → length rest ≤ n → length rest ≤ k → lines_from m n rest ≡ lines_from m k rest)
      → unwrap_or (option_map (λ line. with_line line.0 (lines_from m n line.1)) o) ([], b ∷ bytes) ≡ unwrap_or (option_map (λ line. with_line line.0 (lines_from m k line.1)) o) ([], b ∷ bytes)
  by_line None e more = refl
  by_line (Some x) e more =
      let s = shorter m (b ∷ bytes) x.0 x.1 p e in
      ap (with_line x.0) (more x.1 (omega (arith, s)) (omega (arith, s)))

-- no line
pub stopped : (m : ℕ) (rest : List ℕ) → line_at m rest ≡ None → lines_at m rest ≡ ([], rest)
unfolding lines_at
stopped m [] e = refl
stopped m (b ∷ rest) e = rw e refl

-- a line, and the lines after it
pub advanced : (m : ℕ) (bytes : List ℕ) (i : Instruction) (rest : List ℕ) → 0 < m → line_at m bytes ≡ Some (i, rest) → lines_at m bytes ≡ with_line i (lines_at m rest)
unfolding lines_at
advanced m [] i rest p e = absurd (let s = shorter m [] i rest p e in omega (arith, s))
advanced m (b ∷ bytes) i rest p e =
    let s = shorter m (b ∷ bytes) i rest p e in
    rw e (ap (with_line i) (enough m (length bytes) (length rest) rest p (omega (arith, s)) (omega arith)))

-- instructions that were read, before those that are read next
abbrev pub after_code : List Instruction → List Instruction × List ℕ → List Instruction × List ℕ
after_code code read = (code ++ read.0, read.1)

-- one more instruction was read
pub pushed : (code : List Instruction) (i : Instruction) (more all : List Instruction × List ℕ) → all ≡ with_line i more → after_code code all ≡ after_code (code ++ i ∷ []) more
pushed code i more all e = ap (after_code code) e ∙ ap (λ c. (c, more.1)) (sym (append_assoc code (i ∷ []) more.0))

-- the bytes end after the lines, or they do not
pub ended : (m : ℕ) (bytes : List ℕ) (code : List Instruction) → lines_at m bytes ≡ (code, []) → code_of m bytes ≡ Ok code
unfolding code_of
ended m bytes code e = rw e refl

pub told : (m : ℕ) (bytes : List ℕ) (code : List Instruction) (rest : List ℕ) → lines_at m bytes ≡ (code, rest) → (rest ≡ [] → ⊥) → code_of m bytes ≡ Err (Malformed (length code + 2))
unfolding code_of
told m bytes code [] e some = absurd (some refl)
told m bytes code (b ∷ rest) e some = rw e refl

-- what lines that are read are
pub record AreLines (m : ℕ) (bytes : List ℕ) (read : List Instruction × List ℕ) : Type 0 where
  pub text : bytes ≡ code_text m read.0 ++ read.1
  pub below : All (IsBelow m) read.0
  pub none : line_at m read.1 ≡ None

lines_from_are : (m most : ℕ) (bytes : List ℕ) → 0 < m → length bytes ≤ most → AreLines m bytes (lines_from m most bytes)
lines_from_are m zero [] p h = record { text = refl; below = All-nil (IsBelow m); none = nothing_read m }
lines_from_are m zero (b ∷ bytes) p h = absurd (omega arith)
lines_from_are m (suc most) bytes p h = by_line (line_at m bytes) refl (λ rest k. lines_from_are m most rest p k) where
  by_line : (o : Option (Instruction × List ℕ)) → line_at m bytes ≡ o → ((rest : List ℕ) → length rest ≤ most → AreLines m rest (lines_from m most rest))
      → AreLines m bytes (unwrap_or (option_map (λ line. with_line line.0 (lines_from m most line.1)) o) ([], bytes))
  by_line None e more = record { text = refl; below = All-nil (IsBelow m); none = e }
  by_line (Some x) e more =
      let s = shorter m bytes x.0 x.1 p e in
      let l = line_is m bytes x.0 x.1 p e in
      let k = more x.1 (omega (arith, s)) in
      let read = lines_from m most x.1 in
      record {
        text = l.text ∙ ap (λ y. line_text m x.0 ++ y) k.text ∙ sym (append_assoc (line_text m x.0) (code_text m read.0) read.1);
        below = All-cons (IsBelow m) x.0 read.0 l.below k.below;
        none = k.none;
      }

pub lines_are : (m : ℕ) (bytes : List ℕ) (read : List Instruction × List ℕ) → 0 < m → lines_at m bytes ≡ read → AreLines m bytes read
unfolding lines_at
lines_are m bytes read p e = subst (AreLines m bytes) e (lines_from_are m (length bytes) bytes p (omega arith))

-- lines of code are read
pub lines_read : (m : ℕ) (code : List Instruction) (rest : List ℕ) → 0 < m → m ≤ 65535 → All (IsBelow m) code → line_at m rest ≡ None → lines_at m (code_text m code ++ rest) ≡ (code, rest)
lines_read m [] rest p l h e = stopped m rest e
lines_read m (i ∷ code) rest p l h e =
    let others = code_text m code ++ rest in
    ap (lines_at m) (append_assoc (line_text m i) (code_text m code) rest)
    ∙ advanced m (line_text m i ++ others) i others p (line_read m i others l (All-head (IsBelow m) i code h))
    ∙ ap (with_line i) (lines_read m code rest p l (All-tail (IsBelow m) i code h) e)

code_read : (m : ℕ) (code : List Instruction) → 0 < m → m ≤ 65535 → All (IsBelow m) code → code_of m (code_text m code) ≡ Ok code
code_read m code p l h =
    ended m (code_text m code) code (ap (lines_at m) (sym (append-nil (code_text m code))) ∙ lines_read m code [] p l h (nothing_read m))

-- code that was read is all of the lines
only_is : (read : List Instruction × List ℕ) (code : List Instruction) → only_lines read.0 read.1 ≡ Ok code → read ≡ (code, [])
only_is (c, []) code e = let q : c ≡ code = cc in ap (λ x. (x, [])) q
only_is (c, b ∷ rest) code e = absurd (cc)

-- the load file of a warrior means it
pub means : (rules : RulesView) (w : WarriorView) → IsRules rules → IsWarrior w → Fits rules w → load_meaning rules (load_text rules.core w) ≡ Ok w
unfolding load_meaning load_text
means rules w k h f =
    let m = rules.core in
    let most = k.core.1 in
    let least = k.core.0 in
    rw (
      start_read w.start (code_text m w.code) (omega (arith, h.short, h.inside)),
      code_read m w.code (omega (arith, least)) most f.numbers,
      warrior_passes rules w h f,
    ) refl

-- bytes that mean a warrior are its load file
pub spelled_as : (rules : RulesView) (bytes : List ℕ) (w : WarriorView) → IsRules rules → load_meaning rules bytes ≡ Ok w → (bytes ≡ load_text rules.core w) × IsWarrior w × Fits rules w
unfolding load_meaning code_of load_text
spelled_as rules bytes w k e =
    let least = k.core.0 in
    let s = went_on (ok_or (start_at bytes) (Malformed 1)) _ w e in
    let c = went_on (code_of rules.core s.0.1) _ w s.2 in
    let t = start_is bytes s.0.0 s.0.1 (some_of (start_at bytes) (Malformed 1) s.0 s.1) in
    let l = lines_are rules.core s.0.1 (c.0, []) (omega (arith, least)) (only_is (lines_at rules.core s.0.1) c.0 c.1) in
    let p = warrior_view c.0 s.0.0 in
    let f = warrior_fits rules p w k (ok_of Warrior (warrior_of rules p) w c.2) in
    let lines = l.text ∙ append-nil (code_text rules.core c.0) in
    let text : bytes ≡ start_text s.0.0 ++ code_text rules.core c.0 = t.0 ∙ ap (λ x. start_text s.0.0 ++ x) lines in
    (text ∙ ap (λ (v : WarriorView). start_text v.start ++ code_text rules.core v.code) (sym f.0), subst (λ v. IsWarrior v) (sym f.0) f.1, subst (λ v. Fits rules v) (sym f.0) f.2)

-- what is no fault of a text is out of memory
only_memory : (fault : LoadFault) → ((IsOutOfMemory fault → ⊥) → ⊥) → fault ≡ OutOfMemory
only_memory (Malformed line) h = absurd (h (λ e. absurd (cc)))
only_memory (Warrior error) h = absurd (h (λ e. absurd (cc)))
only_memory OutOfMemory h = refl

-- a call that reads the load file of a warrior returns it, unless memory runs out
pub read_back : (r meaning : Result WarriorView LoadFault) (w : WarriorView) → Returns IsOutOfMemory (λ v. v) r meaning → meaning ≡ Ok w
    → MatchResult r (λ v. v ≡ w) (λ e. e ≡ OutOfMemory)
read_back (Ok v) meaning w h e = cc
read_back (Err f) meaning w h e = only_memory f (λ n. let q = h n in absurd (cc))

-- a warrior that breaks the rules is no malformed line
no_warrior : (line : ℕ) (r : Result WarriorView WarriorError) → with_fault Warrior r ≡ Err (Malformed line) → ⊥
no_warrior line (Ok w) e = cc
no_warrior line (Err x) e = let q : Warrior x ≡ Malformed line = cc in cc

same_line : (a b : ℕ) → Malformed a ≡ Malformed b → a ≡ b
same_line a b e = cc

-- the malformed line of a text after its first line is that of the lines of code
pub later_line : (rules : RulesView) (bytes lines : List ℕ) (start line : ℕ) → start_at bytes ≡ Some (start, lines) → load_meaning rules bytes ≡ Err (Malformed line)
    → code_of rules.core lines ≡ Err (Malformed line)
unfolding load_meaning
later_line rules bytes lines start line s e = by_code (code_of rules.core lines) (sym (rw s refl) ∙ e) where
  by_code : (r : Result (List Instruction) LoadFault) → and_then (λ code. with_fault Warrior (warrior_of rules (warrior_view code start))) r ≡ Err (Malformed line) → r ≡ Err (Malformed line)
  by_code (Ok code) q = absurd (no_warrior line (warrior_of rules (warrior_view code start)) q)
  by_code (Err f) q = let g : f ≡ Malformed line = cc in ap Err g

pub line_later : (rules : RulesView) (bytes lines : List ℕ) (start line : ℕ) → start_at bytes ≡ Some (start, lines) → code_of rules.core lines ≡ Err (Malformed line)
    → load_meaning rules bytes ≡ Err (Malformed line)
unfolding load_meaning
line_later rules bytes lines start line s e = rw (s, e) refl

-- it is the one after the lines that are read
after_lines : (read : List Instruction × List ℕ) (line : ℕ) → only_lines read.0 read.1 ≡ Err (Malformed line) → (line ≡ length read.0 + 2) × (read.1 ≡ [] → ⊥)
after_lines (code, []) line e = absurd (cc)
after_lines (code, b ∷ rest) line e =
    let f : Malformed (length code + 2) ≡ Malformed line = cc in
    (sym (same_line (length code + 2) line f), λ n. absurd (cc))

pub code_line : (m line : ℕ) (lines : List ℕ) → code_of m lines ≡ Err (Malformed line) → (line ≡ length (lines_at m lines).0 + 2) × ((lines_at m lines).1 ≡ [] → ⊥)
unfolding code_of
code_line m line lines e = after_lines (lines_at m lines) line e

pub line_code : (m line : ℕ) (lines : List ℕ) → line ≡ length (lines_at m lines).0 + 2 → ((lines_at m lines).1 ≡ [] → ⊥) → code_of m lines ≡ Err (Malformed line)
line_code m line lines k some = told m lines (lines_at m lines).0 (lines_at m lines).1 refl some ∙ ap (λ n. Err (Malformed n)) (sym k)

-- the first line is malformed only if none is read
pub first_line : (rules : RulesView) (bytes : List ℕ) → load_meaning rules bytes ≡ Err (Malformed 1) → start_at bytes ≡ None
first_line rules bytes e = by_start (start_at bytes) refl where
  by_start : (o : Option (ℕ × List ℕ)) → start_at bytes ≡ o → start_at bytes ≡ None
  by_start None s = s
  by_start (Some x) s = let l = code_line rules.core 1 x.1 (later_line rules bytes x.1 x.0 1 s e) in let n = l.0 in absurd (omega (arith, n))

-- equal texts have equal warriors
pub one_warrior : (rules : RulesView) (v w : WarriorView) → IsRules rules → IsWarrior v → IsWarrior w → Fits rules v → Fits rules w
    → load_text rules.core v ≡ load_text rules.core w → v ≡ w
one_warrior rules v w k pv pw fv fw e =
    let q = sym (means rules v k pv fv) ∙ ap (load_meaning rules) e ∙ means rules w k pw fw in
    cc
