use Rattle.std.proofs.Common.{◌≡◌, ◌+◌, ◌-◌, ◌<◌, ◌≤◌, true, nat_lt, ◌&&◌, length, sym, ap, ◌∙◌, arith}
use Rattle.std.proofs.lemmas.Bool.Decides.{nat_tests}
use Rattle.vb_path.specs.Paths.{text_of_path}
use Rattle.vb_tree.specs.Renames.{is_within, is_deep, moved_path}
use Rattle.vb_tree.proofs.MovedPaths.{length-moved, parts-moved, or_left, or_right}
use Rattle.vb_tree.proofs.moves.is_too_deep.Goals as goal

pub returns-then-bytes-gt-MOST_BYTES : goal.returns-then-bytes-gt-MOST_BYTES
returns-then-bytes-gt-MOST_BYTES c =
    let source = c.args.source.now in
    let target = c.args.target.now in
    let path = c.args.path.now in
    let within : is_within source path ≡ true = grind (arith, nat_tests) in
    let bytes : length c.text.result.now + length c.text-2.result.now - length c.text-3.result.now ≡ length (text_of_path (moved_path source target path)) =
    omega (arith, length-moved source target path c.requires.source_in c.requires.target_in within, ap length c.text.ensures.spelled, ap length c.text-2.ensures.spelled, ap length c.text-3.ensures.spelled) in
    let after = moved_path source target path in
    let long : 1024 < length (text_of_path after) = omega arith in
    ap (nat_lt 1024) bytes
    ∙ or_left 1024 (length (text_of_path after)) (nat_lt 32 (length after)) long
    ∙ sym (ap (λ v. v && is_deep after) within)

pub returns-else-bytes-gt-MOST_BYTES : goal.returns-else-bytes-gt-MOST_BYTES
returns-else-bytes-gt-MOST_BYTES c =
    let source = c.args.source.now in
    let target = c.args.target.now in
    let path = c.args.path.now in
    let within : is_within source path ≡ true = grind (arith, nat_tests) in
    let bytes : length c.text.result.now + length c.text-2.result.now - length c.text-3.result.now ≡ length (text_of_path (moved_path source target path)) =
    omega (arith, length-moved source target path c.requires.source_in c.requires.target_in within, ap length c.text.ensures.spelled, ap length c.text-2.ensures.spelled, ap length c.text-3.ensures.spelled) in
    let after = moved_path source target path in
    let parts : length c.parts-3.result.now + length c.parts-4.result.now - length c.parts-5.result.now ≡ length after =
    omega (arith, parts-moved source target path within, ap length c.parts-3.ensures.same, ap length c.parts-4.ensures.same, ap length c.parts-5.ensures.same) in
    let short : length (text_of_path after) ≤ 1024 = omega arith in
    ap (nat_lt 32) parts
    ∙ or_right 1024 (length (text_of_path after)) (nat_lt 32 (length after)) short
    ∙ sym (ap (λ v. v && is_deep after) within)
