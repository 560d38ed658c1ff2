-- Words that only the contracts of private functions use: a text that is cut into parts, a claim
-- that is checked, and a certificate that is being written.
use Rattle.std.specs.Prelude.{◌≡◌, ℕ, ◌*◌, ◌==◌, List, [], ◌∷◌, length, slice_get, Option, Some, false, MatchOption}
use Rattle.std.specs.Borrow.{Bor}
use Rattle.std.specs.Global.{Vec}
use Rattle.std.specs.Io.KnownBytes.{Appends}
use Rattle.std.specs.List.{slice_split, sum_by}
use Rattle.rc_instr.specs.Warrior.{WarriorView}
use Rattle.tune_problem.specs.Problem.{Problem, problem_of}
use Rattle.tune_problem.specs.declared.aim.Aim.{Aim}
use Rattle.tune_problem.specs.declared.statement.Statement.{Statement}
use Rattle.tune_cert.specs.Checks.{share_settings}
use Rattle.tune_cert.specs.Shares.{share_part}
use Rattle.tune_cert.specs.declared.claim.Claim.{Claim}
use Rattle.tune_cert.specs.declared.share.Share.{Share}
use Rattle.csv.specs.Writing.{default_writer, writer_setup, fields_written, has_written, text_written}
use Rattle.csv.specs.declared.writer.Writer.{Writer}

-- The text is cut at its first `byte`: its parts are `first`, and then the parts of `others`, which
-- is None if there is no such byte.
abbrev pub AreParts : (byte : ℕ) → (text first : List ℕ) → (others : Option (Bor (List ℕ))) → Type 0
AreParts byte text first others =
    let parts = slice_split (λ (b : ℕ). b == byte) in
    MatchOption others (parts text ≡ first ∷ []) (λ rest. parts text ≡ first ∷ parts rest.now)

-- Applies a rule of `Checks` to the inputs, the statement and the aim of a claim.
abbrev pub for_claim : {A : Type 0} → (rule : Problem → Statement → Option Aim → A) → Claim → A
for_claim rule claim = rule (problem_of claim.inputs.now) claim.statement.now claim.aim

-- The settings of a share, out of those of a claim.
abbrev pub claim_settings : Share → Claim → List ℕ
claim_settings share claim = share_settings (share_part share) (problem_of claim.inputs.now).count

-- The most that the fights of a listing can give.
abbrev pub listed_most : Problem → List (ℕ × ℕ) → ℕ
listed_most p listed = sum_by (λ e. 3 * p.weight e.0) listed

-- An entry for each setting, at its index: its warrior, or None if that was not needed yet.
pub record AreAssembled (p : Problem) (warriors : List (Option WarriorView)) : Type 0 where
  pub as_many : length warriors ≡ p.count
  pub each : (v : ℕ) (w : WarriorView) → slice_get warriors v ≡ Some (Some w) → p.warrior v ≡ Some w

-- A writer with the default settings, between two records.
pub record IsReady {W : Type 0} (writer : Writer W) : Type 0 where
  pub setup : writer_setup writer ≡ default_writer
  pub fields : fields_written writer ≡ 0
  pub wrote : has_written writer ≡ false

-- The writer appended this text to what it had written before, and is between two records again.
pub record AddsText (old new : Writer (Vec ℕ)) (text : List ℕ) : Type 0 where
  pub ready : IsReady new
  pub added : Appends (text_written (λ v. Some v.items) old) (text_written (λ v. Some v.items) new) text
