use Rattle.std.proofs.Common.{◌≡◌, ℕ, false, List, [], ◌∷◌, ◌++◌, Option, refl, sym, ap, ◌∙◌, subst}
use Rattle.std.specs.Str.{is_utf8, chars}
use Rattle.std.specs.Str.Lossy.{utf8_valid_len}
use lib.Utf8.{encode}
use Rattle.vb_path.specs.Parts.{is_part, IsPart}
use Rattle.vb_tree.specs.Renames.{is_deep}
use Rattle.vb_index.specs.declared.held.Held.{Held}
use Rattle.vb_index.specs.Heights.{path_to}
use Rattle.vb_index.specs.Nodes.{child_of}
use Rattle.vb_index.specs.Indexes.{IndexState}
use Rattle.vb_index.proofs.Beginnings.{fresh-child}
use Rattle.vb_index.proofs.tests.index_of_node.Goals as goal

pub put-requires-clause-new_name : goal.put-requires-clause-new_name
put-requires-clause-new_name c = ap (λ (s : IndexState). child_of s.nodes 0 c.in_ok-of.field-0) c.in_ok-index.ensures.nodes ∙ fresh-child 15 0 c.in_ok-of.field-0

one_part : IsPart (97 ∷ [])
unfolding is_part utf8_valid_len is_utf8 chars encode
one_part = refl

pub put-requires-clause-valid : goal.put-requires-clause-valid
put-requires-clause-valid c = subst IsPart (sym c.in_ok-of.ensures) one_part

one_deep : (nodes : List (Option Held)) → is_deep (path_to nodes 0 ++ (97 ∷ []) ∷ []) ≡ false
unfolding path_to
one_deep nodes = refl

pub put-requires-clause-shallow : goal.put-requires-clause-shallow
put-requires-clause-shallow c = ap (λ (name : List ℕ). is_deep (path_to c.in_ok-index.index.nodes 0 ++ name ∷ [])) c.in_ok-of.ensures ∙ one_deep c.in_ok-index.index.nodes
