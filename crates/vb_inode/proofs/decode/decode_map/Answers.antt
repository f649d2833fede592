use Rattle.std.proofs.Common.{◌≡◌, ℕ, ◌*◌, true, drop, length, sym, ap, ◌∙◌}
use Rattle.std.proofs.lemmas.Bool.{false≢true}
use Rattle.vb_inode.specs.Checks.{are_zeros}
use Rattle.vb_inode.proofs.RefBytes.{map_page-read, map_page-zeros, map_page_same}
use Rattle.vb_inode.proofs.PagesRead.{map_read-read, map_read-rest}
use Rattle.vb_inode.proofs.decode.decode_map.Goals as goal

pub returns-then-not-are_zeros-clause-read : goal.returns-then-not-are_zeros-clause-read
returns-then-not-are_zeros-clause-read c =
    let page = c.args.page.now in
    let k = 36 * c.args.count in
    let tested : c.are_zeros.result ≡ are_zeros (drop k page) = c.are_zeros.ensures ∙ ap are_zeros (c.split_within.ensures.back ∙ ap (drop k) c.bytes.ensures.bytes) in
    map_read-rest c.args.count page (sym tested ∙ c.if-not-are_zeros.true)

pub returns-clause-read : goal.returns-clause-read
returns-clause-read c =
    let page = c.args.page.now in
    let k = 36 * c.args.count in
    let tested : c.are_zeros.result ≡ are_zeros (drop k page) = c.are_zeros.ensures ∙ ap are_zeros (c.split_within.ensures.back ∙ ap (drop k) c.bytes.ensures.bytes) in
    map_read-read c.args.count page c.bytes-2.result.now c.in_ok-read_refs.field-0 c.bytes-2.ensures.bytes c.in_ok-read_refs.ensures (sym tested ∙ c.if-not-are_zeros.false)

pub returns-then-not-are_zeros-clause-accepted : goal.returns-then-not-are_zeros-clause-accepted
returns-then-not-are_zeros-clause-accepted c = λ refs len are e.
    let page = c.args.page.now in
    let k = 36 * c.args.count in
    let tested : c.are_zeros.result ≡ are_zeros (drop k page) = c.are_zeros.ensures ∙ ap are_zeros (c.split_within.ensures.back ∙ ap (drop k) c.bytes.ensures.bytes) in
    let holds : c.are_zeros.result ≡ true = tested ∙ map_page-zeros c.args.count page refs len are e in
    absurd (false≢true (sym c.if-not-are_zeros.true ∙ holds))

pub returns-clause-found : goal.returns-clause-found
returns-clause-found c =
    let page = c.args.page.now in
    let k = 36 * c.args.count in
    let tested : c.are_zeros.result ≡ are_zeros (drop k page) = c.are_zeros.ensures ∙ ap are_zeros (c.split_within.ensures.back ∙ ap (drop k) c.bytes.ensures.bytes) in
    let zeros : are_zeros (drop k page) ≡ true = sym tested ∙ c.if-not-are_zeros.false in
    let read = c.in_ok-read_refs.ensures in
    (read.counted, read.are_refs, map_page-read c.args.count page c.bytes-2.result.now c.in_ok-read_refs.field-0 (sym (ap (length {A = ℕ}) c.bytes.ensures.bytes) ∙ c.bytes.ensures.page) c.bytes-2.ensures.bytes read zeros)

pub returns-clause-accepted : goal.returns-clause-accepted
returns-clause-accepted c = λ refs len are e.
    let found = returns-clause-found c in
    map_page_same c.in_ok-read_refs.field-0 refs found.1 are (found.0 ∙ sym len) (sym found.2 ∙ e)
