-- The block of a head: its fields in their order, and the field that stands at each place.
use Rattle.std.specs.Prelude.{ℕ, Bool, ◌==◌, List, [], ◌∷◌, ◌++◌, take, drop, replicate}
use Rattle.std.specs.List.{list_all}
use Rattle.byteorder.specs.Endian.{little_bytes, little_number}

-- the text `ViewBox1`
abbrev pub signature : List ℕ
signature = 86 ∷ 105 ∷ 101 ∷ 119 ∷ 66 ∷ 111 ∷ 120 ∷ 49 ∷ []

-- whether each byte is 0
abbrev pub are_zeros : List ℕ → Bool
are_zeros bytes = list_all (λ b. b == 0) bytes

-- the fields of a head's block before its seal
pub record Fields : Type 0 where
  pub signature : List ℕ
  pub version : ℕ
  pub id : List ℕ
  pub blocks : ℕ
  pub nodes : ℕ
  pub sequence : ℕ
  pub epoch : ℕ
  pub state : ℕ
  pub count : ℕ
  pub rest : List ℕ

-- parts, one after the other
abbrev pub in_order : List ℕ → List ℕ → List ℕ → List ℕ → List ℕ → List ℕ → List ℕ → List ℕ → List ℕ → List ℕ → List ℕ
in_order a b c d e f g h i j = a ++ b ++ c ++ d ++ e ++ f ++ g ++ h ++ i ++ j

-- the fields in their order
unfoldable pub spelled : Fields → List ℕ
spelled f =
    in_order f.signature (little_bytes 4 f.version) f.id (little_bytes 4 f.blocks) (little_bytes 4 f.nodes)
    (little_bytes 8 f.sequence) (little_bytes 8 f.epoch) (little_bytes 4 f.state) (little_bytes 4 f.count) f.rest

-- the number of 4 bytes from a place on
abbrev pub number4_at : ℕ → List ℕ → ℕ
number4_at at page = little_number 4 (drop at page)

-- the number of 8 bytes from a place on
abbrev pub number8_at : ℕ → List ℕ → ℕ
number8_at at page = little_number 8 (drop at page)

-- the fields of a page
unfoldable pub fields_of : List ℕ → Fields
fields_of page = record {
  signature = take 8 page;
  version = number4_at 8 page;
  id = take 16 (drop 12 page);
  blocks = number4_at 28 page;
  nodes = number4_at 32 page;
  sequence = number8_at 36 page;
  epoch = number8_at 44 page;
  state = number4_at 52 page;
  count = number4_at 56 page;
  rest = take 4004 (drop 60 page);
}

-- the rest of a head's block: zeros alone
unfoldable pub no_rest : List ℕ
no_rest = replicate 4004 0
