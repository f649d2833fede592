use Rattle.vb_helper.proofs.Sorted.{sorted_at}
use Rattle.vb_helper.proofs.laws.a_view_is_in_path_order.Goals as goal

pub returns : goal.returns
returns c = λ nodes tree is. sorted_at nodes tree is.in_order
