-- What items and a program are spelled as. One constructor for each alternative of the grammar.
use Rattle.std.specs.Prelude.{◌≡◌, ℕ, max, Bool, true, false, List, [], ◌∷◌, ◌++◌, Option, Some, None, codes}
use Rattle.xmt_base.specs.declared.Place.{Place}
use Rattle.xmt_lex.specs.declared.Token.{Token}
use Rattle.xmt_lex.specs.declared.kinds.Keyword.TheVariants as k
use Rattle.xmt_lex.specs.declared.kinds.Mark.TheVariants as m
use Rattle.raw_tree.specs.declared.tree.RawExpr.{RawExpr}
use Rattle.raw_tree.specs.declared.tree.RawType.{RawType}
use Rattle.raw_tree.specs.declared.tree.RawStmt.{RawStmt}
use Rattle.raw_tree.specs.declared.tree.RawValues.{RawValues}
use Rattle.raw_tree.specs.declared.tree.RawGlobal.{RawGlobal}
use Rattle.raw_tree.specs.declared.tree.RawGlobal.TheVariants as global
use Rattle.raw_tree.specs.declared.tree.RawRegister.{RawRegister}
use Rattle.raw_tree.specs.declared.tree.RawResult.{RawResult}
use Rattle.raw_tree.specs.declared.tree.RawResult.TheVariants as result
use Rattle.raw_tree.specs.declared.tree.RawParam.{RawParam}
use Rattle.raw_tree.specs.declared.tree.RawParams.{RawParams}
use Rattle.raw_tree.specs.declared.tree.RawParams.TheVariants as params
use Rattle.raw_tree.specs.declared.tree.RawItem.{RawItem}
use Rattle.raw_tree.specs.declared.tree.RawItemKind.{RawItemKind}
use Rattle.raw_tree.specs.declared.tree.RawItemKind.TheVariants as i
use Rattle.raw_tree.specs.Level.{Tokens, Cond, Parted, bytes_of}
use Rattle.raw_tree.specs.Grammar.{name_of, Spells}
use Rattle.raw_tree.specs.Statements.{Key, Is, IsName, SpellsType, SpellsOpening, SpellsBody}

abbrev pub item : Place → RawItemKind → RawItem
item p q = record { at = p; kind = q }

module _ (source : List ℕ) where
  -- values parted by commas, and whether a comma stands behind the last one
  pub data SpellsConds : Bool → ℕ → List RawExpr → Tokens → Type 0 where
    last_cond : {n : ℕ} {a : RawExpr} {x : Tokens} → Spells source n Cond a x → SpellsConds false n (a ∷ []) x
    comma_behind : (t : Token) {n : ℕ} {a : RawExpr} {x : Tokens} → Spells source n Cond a x → Is t m.Comma → SpellsConds true n (a ∷ []) (x ++ t ∷ [])
    more_conds : (t : Token) {comma : Bool} {h j : ℕ} {a : RawExpr} {rest : List RawExpr} {x y : Tokens} → Spells source h Cond a x → Is t m.Comma → SpellsConds comma j rest y → SpellsConds comma (max h j) (a ∷ rest) (x ++ t ∷ y)

  pub data SpellsArray : ℕ → RawValues → Tokens → Type 0 where
    in_curly : (o c : Token) {comma : Bool} {n : ℕ} {all : List RawExpr} {x : Tokens} → Is o m.OpenCurly → SpellsConds comma n all x → Is c m.CloseCurly →
        SpellsArray n (record { at = o.place; values = all; comma = comma }) (o ∷ (x ++ c ∷ []))

  pub data SpellsValuesOf : ℕ → Option RawValues → Tokens → Type 0 where
    no_values : SpellsValuesOf 0 None []
    some_values : (e : Token) {n : ℕ} {all : RawValues} {x : Tokens} → Is e m.Equal → SpellsArray n all x → SpellsValuesOf n (Some all) (e ∷ x)

  pub data SpellsGlobal : ℕ → RawGlobal → Tokens → Type 0 where
    scalar : (t : Token) {n : ℕ} {opening : Option RawExpr} {x : Tokens} → IsName t → SpellsOpening source Cond n opening x → SpellsGlobal n (global.Scalar (name_of source t) opening) (t ∷ x)
    array : (t o c : Token) {h n : ℕ} {length : RawExpr} {all : Option RawValues} {x y : Tokens} → IsName t → Is o m.OpenSquare → Spells source h Cond length x → Is c m.CloseSquare → SpellsValuesOf n all y →
        SpellsGlobal (max h n) (global.Array (name_of source t) length all) (t ∷ o ∷ (x ++ c ∷ y))
    array_of_values : (t o c e : Token) {n : ℕ} {all : RawValues} {x : Tokens} → IsName t → Is o m.OpenSquare → Is c m.CloseSquare → Is e m.Equal → SpellsArray n all x →
        SpellsGlobal n (global.Open (name_of source t) all) (t ∷ o ∷ c ∷ e ∷ x)

  pub data SpellsRegister : ℕ → RawRegister → Tokens → Type 0 where
    register : (t : Token) {n : ℕ} {opening : Option RawExpr} {x : Tokens} → IsName t → SpellsOpening source Cond n opening x → SpellsRegister n (record { name = name_of source t; value = opening }) (t ∷ x)

  -- `int` or `void` and a name, or `main`
  pub data SpellsResult : RawResult → Place → Tokens → Type 0 where
    int : (t u : Token) → Key t k.Int → IsName u → SpellsResult (result.Int (name_of source u)) t.place (t ∷ u ∷ [])
    void : (t u : Token) → Key t k.Void → IsName u → SpellsResult (result.Void (name_of source u)) t.place (t ∷ u ∷ [])
    main : (t : Token) → IsName t → bytes_of source t ≡ codes "main" → SpellsResult (result.Main (name_of source t)) t.place (t ∷ [])

  -- a parameter; named says whether it must have a name
  pub data SpellsParam (named : Bool) : ℕ → RawParam → Tokens → Type 0 where
    with_name : (t : Token) {ty : RawType} {x : Tokens} → SpellsType ty x → IsName t → SpellsParam named 0 (record { ty = ty; name = Some (name_of source t) }) (x ++ t ∷ [])
    without_name : {ty : RawType} {x : Tokens} → named ≡ false → SpellsType ty x → SpellsParam named 0 (record { ty = ty; name = None }) x

  pub data SpellsParams (named : Bool) : RawParams → Tokens → Type 0 where
    nothing_between : SpellsParams named params.Nothing []
    void_between : (t : Token) → Key t k.Void → SpellsParams named params.Void (t ∷ [])
    params_between : {n : ℕ} {all : List RawParam} {x : Tokens} → Parted RawParam (SpellsParam named) n all x → SpellsParams named (params.Some all) x

  pub data SpellsItem : ℕ → RawItem → Tokens → Type 0 where
    globals : (e : Token) {n : ℕ} {ty : RawType} {all : List RawGlobal} {x y : Tokens} → SpellsType ty x → Parted RawGlobal SpellsGlobal n all y → Is e m.Semicolon → SpellsItem n (item ty.at (i.Globals ty all)) (x ++ (y ++ e ∷ []))
    registers : (t e : Token) {n : ℕ} {all : List RawRegister} {x : Tokens} → Key t k.PsBaseReg → Parted RawRegister SpellsRegister n all x → Is e m.Semicolon → SpellsItem n (item t.place (i.Registers false all)) (t ∷ (x ++ e ∷ []))
    int_registers : (t u e : Token) {n : ℕ} {all : List RawRegister} {x : Tokens} → Key t k.PsBaseReg → Key u k.Int → Parted RawRegister SpellsRegister n all x → Is e m.Semicolon → SpellsItem n (item t.place (i.Registers true all)) (t ∷ u ∷ (x ++ e ∷ []))
    function : (o c p q : Token) {n : ℕ} {head : RawResult} {at : Place} {all : RawParams} {body : List RawStmt} {x y z : Tokens} →
        SpellsResult head at x → Is o m.OpenRound → SpellsParams true all y → Is c m.CloseRound → Is p m.OpenCurly → SpellsBody source n body z → Is q m.CloseCurly →
        SpellsItem n (item at (i.Function head all body)) (x ++ o ∷ (y ++ c ∷ p ∷ (z ++ q ∷ [])))
    proto : (o c e : Token) {head : RawResult} {at : Place} {all : RawParams} {x y : Tokens} →
        SpellsResult head at x → Is o m.OpenRound → SpellsParams false all y → Is c m.CloseRound → Is e m.Semicolon → SpellsItem 0 (item at (i.Proto head all)) (x ++ o ∷ (y ++ c ∷ e ∷ []))

  -- one item or more, and the greatest nesting
  pub data SpellsItems : ℕ → List RawItem → Tokens → Type 0 where
    last_item : {n : ℕ} {a : RawItem} {x : Tokens} → SpellsItem n a x → SpellsItems n (a ∷ []) x
    more_items : {h j : ℕ} {a : RawItem} {rest : List RawItem} {x y : Tokens} → SpellsItem h a x → SpellsItems j rest y → SpellsItems (max h j) (a ∷ rest) (x ++ y)

-- Over one source a list of tokens spells at most one tree.
abbrev pub OneTree : Type 0
OneTree = (source : List ℕ) (n k : ℕ) (a b : List RawItem) (ts : Tokens) → SpellsItems source n a ts → SpellsItems source k b ts → a ≡ b
