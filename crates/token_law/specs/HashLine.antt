-- What a hash line says, by its two forms. 35 is `#`, 13 is a carriage return, 60 is `<`, 62 is `>`, 45 is `-`, 42 is `*` and 47 is `/`.
use Rattle.std.specs.Prelude.{◌≡◌, ℕ, ◌<◌, ◌^◌, Bool, true, false, [], ◌∷◌, ◌++◌, length, codes, Some, None, if◌then◌else◌}
use Rattle.std.specs.List.{list_all}
use Rattle.xmt_base.specs.Name.{is_name}
use Rattle.xmt_lex.specs.declared.scan.Class.TheVariants as class
use Rattle.xmt_lex.specs.Lex.{Text, is_in, negated, Said}
use Rattle.token_law.specs.Spelling.{HasNoEnd, IsNumber}

abbrev pub AreSpaces : Text → Type 0
AreSpaces w = list_all (is_in class.Space) w ≡ true

-- what may stand on the rest of the line, and whether a carriage return has stood there
pub data EndsHash : Bool → Text → Type 0 where
  end : {returned : Bool} → EndsHash returned []
  space : {returned : Bool} (b : ℕ) {z : Text} → is_in class.Space b ≡ true → EndsHash returned z → EndsHash returned (b ∷ z)
  carriage_return : {z : Text} → EndsHash true z → EndsHash false (13 ∷ z)
  line_comment : {returned : Bool} (z : Text) → EndsHash returned (47 ∷ 47 ∷ z)
  comment : {returned : Bool} (w : Text) {z : Text} → HasNoEnd (w ++ 42 ∷ []) → EndsHash returned z → EndsHash returned (47 ∷ 42 ∷ (w ++ 42 ∷ 47 ∷ z))

abbrev pub signed : Bool → Text → Text
signed minus w = if minus then 45 ∷ w else w

pub data IsHashLine : Text → Said → Type 0 where
  -- `#` `include` `<` some bytes `>`
  include : (a b h z : Text) → AreSpaces a → AreSpaces b → 0 < length h → list_all (is_in class.Header) h ≡ true → EndsHash false z →
      IsHashLine (35 ∷ (a ++ (codes "include" ++ (b ++ 60 ∷ (h ++ 62 ∷ z))))) None
  -- `#` `define` Name Number; a `-` may stand before the number, and else a space behind the name
  define : (a b n c w z : Text) (minus : Bool) (v : ℕ) → AreSpaces a → AreSpaces b → 0 < length b → is_name n ≡ true → AreSpaces c → (minus ≡ false → 0 < length c) → IsNumber w v → v < 2 ^ 32 → EndsHash false z →
      IsHashLine (35 ∷ (a ++ (codes "define" ++ (b ++ (n ++ (c ++ signed minus (w ++ z))))))) (Some (n, negated minus v))
