-- A thin source as a program of the whole language.
use Rattle.std.proofs.Common.{◌≡◌, ℕ, ◌≤◌, max, List, [], ◌∷◌, ◌++◌, Some, None, Ok, codes, refl, sym, ap, subst, arith}
use Rattle.std.proofs.lemmas.List.{map-append}
use Rattle.source_meaning.specs.declared.tree.GlobalVar.{GlobalVar}
use Rattle.source_meaning.specs.declared.tree.Stmt.{Stmt}
use Rattle.source_meaning.specs.declared.tree.Program.{Program}
use Rattle.thin_source.specs.Tokens.{Text, name_kind, TokensOf}
use Rattle.thin_source.specs.Names.{bytes_of}
use Rattle.thin_source.specs.Grammar as thin
use Rattle.thin_source.specs.Statements as code
use Rattle.thin_source.specs.Thin.{IsThin}
use Rattle.xmt_lex.specs.declared.TokenKind.TheVariants as kind
use Rattle.xmt_lex.specs.declared.kinds.Mark.TheVariants as m
use Rattle.xmt_lex.specs.Lex as lex
use Rattle.raw_tree.specs.declared.tree.RawItem.{RawItem}
use Rattle.raw_tree.specs.declared.tree.RawResult.TheVariants as result
use Rattle.raw_tree.specs.Level.{Tokens, last_one}
use Rattle.raw_tree.specs.Grammar as raw
use Rattle.raw_tree.specs.Statements as stmt
use Rattle.raw_tree.specs.Items as item
use Rattle.xmt_parse.specs.Deep.{too_deep}
use Rattle.xmt_parse.specs.Law.{IsSpelled}
use Rattle.thin_law.proofs.SameTokens.{Token, begins, context_of, whole_kind, whole_token, whole_tokens}
use Rattle.thin_law.proofs.Lexed.{lexed}
use Rattle.thin_law.proofs.SideBySide.{source_linked}
use Rattle.thin_law.proofs.Open.{source_open}
use Rattle.thin_law.proofs.MainWord.{AreSpelled, spelled_parts, tokens_are_spelled, no_main, main_bytes}
use Rattle.thin_law.proofs.Trees.{variable, array, OfItems, main, one_global}
use Rattle.thin_law.proofs.Raw.{IsBody, body_is, up_to_ten, cut}

-- tokens that spell the items of some globals and of `main`, of nesting at most 200
pub record AreItems (source : Text) (all : List GlobalVar) (nodes : ℕ) (globals : List GlobalVar) (body : List Stmt) (us : Tokens) : Type 0 where
  pub nesting : ℕ
  pub items : List RawItem
  pub spelled : item.SpellsItems source nesting items us
  pub shallow : nesting ≤ 200
  pub belongs : OfItems all nodes globals body items

module _ (source : Text) (all : List GlobalVar) where
  -- an item before others
  before : {n nodes : ℕ} {globals others : List GlobalVar} {body : List Stmt} {a : RawItem} {x y : Tokens} → item.SpellsItem source n a x → n ≤ 200 → (rest : AreItems source all nodes others body y) →
      OfItems all nodes globals body (a ∷ rest.items) → AreItems source all nodes globals body (x ++ y)
  before {n = n} first few rest belongs = record { nesting = max n rest.nesting; items = _; spelled = item.more_items first rest.spelled; shallow = omega (arith, few, rest.shallow); belongs = belongs }

  -- globals before `main`
  globals_before : {nodes : ℕ} {globals : List GlobalVar} {body : List Stmt} {x : thin.Tokens} {us : Tokens} → code.SpellsGlobals source globals x → AreSpelled source x → AreItems source all nodes [] body us →
      AreItems source all nodes globals body (whole_tokens x ++ us)
  unfolding name_kind
  globals_before code.none are rest = rest
  globals_before (code.scalar int name semicolon ki kn ks others) are rest =
      let behind = globals_before others are.1.1.1 rest in
      before
      (item.globals (whole_token semicolon) (stmt.words (whole_token int) (stmt.done (whole_token int) (ap whole_kind ki))) (last_one (item.scalar (whole_token name) (ap whole_kind kn) stmt.no_value)) (ap whole_kind ks))
      (omega arith) behind (one_global int.place int.place (variable (raw.name_of source (whole_token name))) (no_main source name are.1.0 (ap begins kn)) behind.belongs)
  globals_before (code.array int name o digits u semicolon ki kn ko kl some kc ks others) are rest =
      let behind = globals_before others are.1.1.1.1.1.1 rest in
      before
      (item.globals (whole_token semicolon) (stmt.words (whole_token int) (stmt.done (whole_token int) (ap whole_kind ki)))
      (last_one (item.array (whole_token name) (whole_token o) (whole_token u) (ap whole_kind kn) (ap whole_kind ko) (raw.as_cond (up_to_ten source (raw.as_binary (raw.as_binary (raw.as_unary (raw.number (whole_token digits) (ap whole_kind kl))))))) (ap whole_kind kc) item.no_values))
      (ap whole_kind ks))
      (omega arith) behind (one_global int.place int.place (array (raw.name_of source (whole_token name)) digits.place some) (no_main source name are.1.0 (ap begins kn)) behind.belongs)

  -- the main function
  main_alone : (word o u brace closing : Token) {n nodes : ℕ} {body : List Stmt} {y : thin.Tokens} → item.SpellsResult source (result.Main (raw.name_of source (whole_token word))) word.place (whole_token word ∷ []) →
      whole_kind o.kind ≡ kind.Mark m.OpenRound → whole_kind u.kind ≡ kind.Mark m.CloseRound → whole_kind brace.kind ≡ kind.Mark m.OpenCurly → IsBody (context_of source all) n nodes body y →
      whole_kind closing.kind ≡ kind.Mark m.CloseCurly → n ≤ 200 → bytes_of source word ≡ codes "main" → AreSpelled source y → AreItems source all nodes [] body (whole_tokens (word ∷ o ∷ u ∷ brace ∷ (y ++ closing ∷ [])))
  main_alone word o u brace closing {n = n} {nodes = nodes} {body = body} {y = y} head ko kc kb inside kz few is are =
      subst (λ (us : Tokens). AreItems source all nodes [] body (whole_token word ∷ whole_token o ∷ whole_token u ∷ whole_token brace ∷ us)) (sym (cut y closing []))
      (record {
        nesting = n;
        items = _;
        spelled = item.last_item (item.function (whole_token o) (whole_token u) (whole_token brace) (whole_token closing) head ko item.nothing_between kc kb inside.spelled kz);
        shallow = few;
        belongs = main word.place (raw.name_of source (whole_token word)) is (inside.belongs few are);
      })

source_is : (source : Text) {n nodes : ℕ} {globals : List GlobalVar} {body : List Stmt} {ts : thin.Tokens} → code.SpellsSource source n nodes globals body ts → TokensOf source ts → n ≤ 200 → AreItems source globals nodes globals body (whole_tokens ts)
unfolding name_kind
source_is source (code.whole word o u brace closing {n = n} {nodes = nodes} {globals = globals} {body = body} {x = x} {y = y} declared km ko kc kb inside kz) are few =
    let bytes = main_bytes source x word (o ∷ u ∷ brace ∷ (y ++ closing ∷ [])) are (ap Some km) in
    let parts = spelled_parts source x (word ∷ o ∷ u ∷ brace ∷ (y ++ closing ∷ [])) (tokens_are_spelled source (x ++ word ∷ o ∷ u ∷ brace ∷ (y ++ closing ∷ [])) are) in
    let within = spelled_parts source y (closing ∷ []) parts.1.1.1.1.1 in
    subst (AreItems source globals nodes globals body) (sym (map-append whole_token x (word ∷ o ∷ u ∷ brace ∷ (y ++ closing ∷ []))))
    (globals_before source globals declared parts.0
    (main_alone source globals word o u brace closing (item.main (whole_token word) (ap whole_kind km) bytes) (ap whole_kind ko) (ap whole_kind kc) (ap whole_kind kb) (body_is (context_of source globals) inside) (ap whole_kind kz) few bytes within.0))

-- the tokens of a thin source, and the items that they spell
pub record HasItems (source : Text) (nodes : ℕ) (globals : List GlobalVar) (body : List Stmt) : Type 0 where
  pub tokens : Tokens
  pub are_tokens : lex.tokens source ≡ Ok tokens
  pub few_open : too_deep 0 tokens ≡ None
  pub items : List RawItem
  pub spelled : IsSpelled source tokens items
  pub belongs : OfItems globals nodes globals body items

pub thin_items : (source : Text) (program : Program) (thin : IsThin source program) → HasItems source thin.nodes thin.globals thin.body
thin_items source program thin =
    let all = source_is source thin.spelled thin.are_tokens thin.shallow in
    record {
      tokens = whole_tokens thin.tokens;
      are_tokens = lexed thin.are_tokens (source_linked source thin.spelled) lex.first_spot refl refl;
      few_open = source_open source thin.spelled thin.shallow;
      items = all.items;
      spelled = (all.nesting, all.spelled, all.shallow);
      belongs = all.belongs;
    }
