-- A load text assembles to its warrior.
use Rattle.std.proofs.Common.{◌^◌, ◌<◌, ◌≤◌, [], length, refl, arith}
use Rattle.std.proofs.lemmas.Bool.{le-leb}
use Rattle.rc_instr.specs.Rules.{RulesView, IsRules}
use Rattle.rc_instr.specs.Warrior.{WarriorView, IsWarrior, Fits}
use Rattle.rc_instr.specs.LoadText.{load_text}
use Rattle.rc_asm.specs.Names.{names_of}
use Rattle.rc_asm.specs.Limits.{MOST_BYTES}
use Rattle.rc_asm.specs.Assembly.{outcome_of, Assembles}
use Rattle.rc_asm.proofs.LoadFile.Printed.{printed_lines}
use Rattle.rc_asm.proofs.LoadFile.Tokens.{load_tokens}
use Rattle.rc_asm.proofs.LoadFile.Expansion.{print_expands}
use Rattle.rc_asm.proofs.LoadFile.Lines.{made_of_printed}
use Rattle.rc_asm.proofs.LoadFile.Length.{load_short}

-- its tokens print the warrior, expand to their lines, and these make the warrior
pub load_assembles : (rules : RulesView) (w : WarriorView) → IsRules rules → IsWarrior w → Fits rules w → Assembles (load_text rules.core w) [] rules w
unfolding outcome_of
load_assembles rules w r g f =
    let text = load_text rules.core w in
    let m : rules.core ≤ 65535 = r.core.1 in
    let n : length w.code ≤ 200 = g.short in
    let l : w.start < 2 ^ 16 = omega (arith, g.inside, n) in
    let t = load_tokens rules.core w l f.numbers m in
    let ls = printed_lines t.0 in
    rw (
      le-leb (length text) MOST_BYTES (load_short rules.core w l f.numbers m n),
      print_expands text rules rules.core w t.0 t.1 n t.2,
      made_of_printed text (names_of text [] rules ls) w t.0 m g f t.1,
    ) refl
