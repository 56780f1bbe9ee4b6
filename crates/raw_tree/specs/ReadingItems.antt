-- Reading items from the front of some tokens.
use Rattle.std.specs.Prelude.{ℕ, zero, suc, max, length, Bool, true, false, ◌&&◌, if◌then◌else◌, List, [], ◌∷◌, ◌++◌, Option, Some, None, codes, bytes_eq}
use Rattle.xmt_base.specs.declared.Place.{Place}
use Rattle.xmt_lex.specs.declared.Token.{Token}
use Rattle.xmt_lex.specs.declared.TokenKind.{TokenKind}
use Rattle.xmt_lex.specs.declared.TokenKind.TheVariants as kind
use Rattle.xmt_lex.specs.declared.kinds.Keyword.TheVariants as k
use Rattle.raw_tree.specs.declared.tree.RawName.{RawName}
use Rattle.raw_tree.specs.declared.tree.RawExpr.{RawExpr}
use Rattle.raw_tree.specs.declared.tree.RawStmt.{RawStmt}
use Rattle.raw_tree.specs.declared.tree.RawValues.{RawValues}
use Rattle.raw_tree.specs.declared.tree.RawGlobal.{RawGlobal}
use Rattle.raw_tree.specs.declared.tree.RawGlobal.TheVariants as global
use Rattle.raw_tree.specs.declared.tree.RawRegister.{RawRegister}
use Rattle.raw_tree.specs.declared.tree.RawResult.{RawResult}
use Rattle.raw_tree.specs.declared.tree.RawResult.TheVariants as result
use Rattle.raw_tree.specs.declared.tree.RawParam.{RawParam}
use Rattle.raw_tree.specs.declared.tree.RawParams.{RawParams}
use Rattle.raw_tree.specs.declared.tree.RawParams.TheVariants as params
use Rattle.raw_tree.specs.declared.tree.RawItem.{RawItem}
use Rattle.raw_tree.specs.declared.tree.RawItemKind.TheVariants as i
use Rattle.raw_tree.specs.Level.{Tokens, bytes_of}
use Rattle.raw_tree.specs.Grammar.{name_of}
use Rattle.raw_tree.specs.Items.{item}
use Rattle.raw_tree.specs.Reading.{Got, ReaderOf, Reader, got, past, comma, open_round, close_round, open_square, close_square, read_parted, readers}
use Rattle.raw_tree.specs.ReadingStatements.{after, semicolon, equal, open_curly, close_curly, is_name, read_name, read_type, read_opening, read_body, read_piece}

-- ---- globals and registers; cond reads a constant expression

-- what the values of an array are so far, and behind a `}`
abbrev pub values_on : (List RawExpr → ℕ → Tokens → Option (Got RawValues)) → Place → List RawExpr → ℕ → Tokens → Option (Got RawValues)
values_on more at done n [] = None
values_on more at done n (c ∷ ts) = if close_curly c.kind then got (record { at = at; values = done; comma = true }) n ts else more done n (c ∷ ts)

abbrev pub values_more : (List RawExpr → ℕ → Tokens → Option (Got RawValues)) → Place → List RawExpr → ℕ → Tokens → Option (Got RawValues)
values_more more at done n [] = None
values_more more at done n (c ∷ ts) =
    if close_curly c.kind then got (record { at = at; values = done; comma = false }) n ts
    else (if comma c.kind then values_on more at done n ts else None)

abbrev pub values_step : (List RawExpr → ℕ → Tokens → Option (Got RawValues)) → Place → List RawExpr → ℕ → Option (Got RawExpr) → Option (Got RawValues)
values_step more at done n None = None
values_step more at done n (Some g) = values_more more at (done ++ g.tree ∷ []) (max n g.nest) g.rest

unfoldable pub values : Reader → (turns : ℕ) → Place → List RawExpr → ℕ → Tokens → Option (Got RawValues)
values cond zero at done n ts = values_step (λ all k us. None) at done n (cond ts)
values cond (suc turns) at done n ts = values_step (values cond turns at) at done n (cond ts)

-- the values behind a `{`
abbrev pub values_of : Reader → Place → ReaderOf RawValues
values_of cond at ts = values cond (length ts) at [] 0 ts

abbrev pub read_array : Reader → ReaderOf RawValues
read_array cond [] = None
read_array cond (o ∷ ts) = if open_curly o.kind then values_of cond o.place ts else None

abbrev pub values_at : Reader → Tokens → Option Tokens → Option (Got (Option RawValues))
values_at cond ts None = got None 0 ts
values_at cond ts (Some us) = after (read_array cond us) (λ g. got (Some g.tree) g.nest g.rest)

abbrev pub read_values_of : Reader → ReaderOf (Option RawValues)
read_values_of cond ts = values_at cond ts (past equal ts)

-- behind the `[` of an array
abbrev pub array_behind : Reader → RawName → Tokens → Option Tokens → Option (Got RawGlobal)
array_behind cond name ts None =
    after (cond ts) (λ a. after (past close_square a.rest) (λ us. after (read_values_of cond us) (λ v. got (global.Array name a.tree v.tree) (max a.nest v.nest) v.rest)))
array_behind cond name ts (Some us) = after (past equal us) (λ vs. after (read_array cond vs) (λ v. got (global.Open name v.tree) v.nest v.rest))

abbrev pub read_sized : Reader → RawName → ReaderOf RawGlobal
read_sized cond name ts = array_behind cond name ts (past close_square ts)

abbrev pub global_behind : Reader → RawName → Tokens → Option Tokens → Option (Got RawGlobal)
global_behind cond name ts None = after (read_opening cond ts) (λ v. got (global.Scalar name v.tree) v.nest v.rest)
global_behind cond name ts (Some us) = read_sized cond name us

abbrev pub read_global : (source : List ℕ) → Reader → ReaderOf RawGlobal
read_global source cond ts = after (read_name source ts) (λ name. global_behind cond name.tree name.rest (past open_square name.rest))

abbrev pub read_globals : (source : List ℕ) → Reader → ReaderOf RawItem
read_globals source cond ts =
    after (read_type ts) (λ ty. after (read_parted (read_global source cond) ty.rest) (λ all. after (past semicolon all.rest) (λ us.
    got (item ty.tree.at (i.Globals ty.tree all.tree)) 0 us)))

abbrev pub read_register : (source : List ℕ) → Reader → ReaderOf RawRegister
read_register source cond ts =
    after (read_name source ts) (λ name. after (read_opening cond name.rest) (λ v. got (record { name = name.tree; value = v.tree }) v.nest v.rest))

abbrev pub is_int : TokenKind → Bool
is_int (kind.Keyword k.Int) = true
is_int _ = false

abbrev pub registers_of : (source : List ℕ) → Reader → Place → Bool → ReaderOf RawItem
registers_of source cond at int ts =
    after (read_parted (read_register source cond) ts) (λ all. after (past semicolon all.rest) (λ us. got (item at (i.Registers int all.tree)) 0 us))

abbrev pub registers_at : (source : List ℕ) → Reader → Place → Tokens → Option Tokens → Option (Got RawItem)
registers_at source cond at ts None = registers_of source cond at false ts
registers_at source cond at ts (Some us) = registers_of source cond at true us

abbrev pub read_registers : (source : List ℕ) → Reader → Place → ReaderOf RawItem
read_registers source cond at ts = registers_at source cond at ts (past is_int ts)

-- ---- functions and prototypes

abbrev pub param_at : (source : List ℕ) → Got RawParam → Tokens → Option (Got RawParam)
param_at source g [] = Some g
param_at source g (t ∷ ts) = if is_name t.kind then got (record { ty = g.tree.ty; name = Some (name_of source t) }) 0 ts else Some g

abbrev pub read_param : (source : List ℕ) → ReaderOf RawParam
read_param source ts = after (read_type ts) (λ ty. param_at source (record { tree = record { ty = ty.tree; name = None }; nest = 0; rest = ty.rest }) ty.rest)

abbrev pub is_void : TokenKind → Bool
is_void (kind.Keyword k.Void) = true
is_void _ = false

abbrev pub params_at : (source : List ℕ) → Tokens → Option Tokens → Option (Got RawParams)
params_at source ts None = after (read_parted (read_param source) ts) (λ all. got (params.Some all.tree) 0 all.rest)
params_at source ts (Some us) = got params.Void 0 us

-- the parameters of a prototype
abbrev pub read_params : (source : List ℕ) → ReaderOf RawParams
read_params source [] = None
read_params source (t ∷ ts) = if close_round t.kind then got params.Nothing 0 (t ∷ ts) else params_at source (t ∷ ts) (past is_void (t ∷ ts))

abbrev pub has_name : RawParam → Bool
has_name p = elim p.name [ None ↦ false | Some name ↦ true ]

abbrev pub have_names : List RawParam → Bool
have_names [] = true
have_names (p ∷ ps) = has_name p && have_names ps

-- the parameters may stand before a body
abbrev pub all_named : RawParams → Bool
all_named (params.Some all) = have_names all
all_named _ = true

abbrev pub read_function : ReaderOf RawStmt → Place → RawResult → RawParams → ReaderOf RawItem
read_function piece at head all ts =
    if all_named all then after (past open_curly ts) (λ us. after (read_body piece us) (λ c. got (item at (i.Function head all c.tree)) 0 c.rest)) else None

abbrev pub proto_at : ReaderOf RawStmt → Place → RawResult → RawParams → Tokens → Option Tokens → Option (Got RawItem)
proto_at piece at head all ts None = read_function piece at head all ts
proto_at piece at head all ts (Some us) = got (item at (i.Proto head all)) 0 us

-- behind a head's name
abbrev pub read_headed : (source : List ℕ) → ReaderOf RawStmt → Place → RawResult → ReaderOf RawItem
read_headed source piece at head ts =
    after (past open_round ts) (λ us. after (read_params source us) (λ all. after (past close_round all.rest) (λ vs. proto_at piece at head all.tree vs (past semicolon vs))))

-- `int` or `void`, then a name
abbrev pub read_typed : (source : List ℕ) → ReaderOf RawStmt → Place → (RawName → RawResult) → ReaderOf RawItem
read_typed source piece at made ts = after (read_name source ts) (λ name. read_headed source piece at (made name.tree) name.rest)

abbrev pub read_main : (source : List ℕ) → ReaderOf RawStmt → Token → ReaderOf RawItem
read_main source piece t ts =
    if bytes_eq (bytes_of source t) (codes "main") then read_headed source piece t.place (result.Main (name_of source t)) ts else None

-- the second token behind an `int` is a `(`
abbrev pub begins_round : Tokens → Bool
begins_round [] = false
begins_round (o ∷ ts) = open_round o.kind

abbrev pub is_head : Tokens → Bool
is_head [] = false
is_head (u ∷ ts) = begins_round ts

abbrev pub begun_item : (source : List ℕ) → Reader → ReaderOf RawStmt → Token → TokenKind → ReaderOf RawItem
begun_item source cond piece t (kind.Keyword k.PsBaseReg) ts = read_registers source cond t.place ts
begun_item source cond piece t (kind.Keyword k.Void) ts = read_typed source piece t.place (λ name. result.Void name) ts
begun_item source cond piece t (kind.Keyword k.Int) ts = if is_head ts then read_typed source piece t.place (λ name. result.Int name) ts else read_globals source cond (t ∷ ts)
begun_item source cond piece t (kind.Keyword k.Const) ts = read_globals source cond (t ∷ ts)
begun_item source cond piece t (kind.Keyword k.Volatile) ts = read_globals source cond (t ∷ ts)
begun_item source cond piece t kind.Name ts = read_main source piece t ts
begun_item source cond piece t _ ts = None

abbrev pub item_of : (source : List ℕ) → Reader → ReaderOf RawStmt → ReaderOf RawItem
item_of source cond piece [] = None
item_of source cond piece (t ∷ ts) = begun_item source cond piece t t.kind ts

abbrev pub read_item : (source : List ℕ) (depth : ℕ) → ReaderOf RawItem
read_item source depth ts = item_of source (readers source depth).of_cond (read_piece source depth) ts

abbrev pub items_step : (List RawItem → Tokens → Option (Got (List RawItem))) → List RawItem → Option (Got RawItem) → Option (Got (List RawItem))
items_step more done None = None
items_step more done (Some g) = more (done ++ g.tree ∷ []) g.rest

-- items to the end, behind those that are done
unfoldable pub items : ReaderOf RawItem → (turns : ℕ) → List RawItem → Tokens → Option (Got (List RawItem))
items one turns done [] = got done 0 []
items one zero done (t ∷ ts) = None
items one (suc turns) done (t ∷ ts) = items_step (items one turns) done (one (t ∷ ts))

abbrev pub read_items : (source : List ℕ) (depth : ℕ) → ReaderOf (List RawItem)
read_items source depth [] = None
read_items source depth (t ∷ ts) = items (read_item source depth) (length (t ∷ ts)) [] (t ∷ ts)
