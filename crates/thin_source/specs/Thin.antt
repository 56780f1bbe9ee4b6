-- Thin sources, and the program of each.
use Rattle.std.specs.Prelude.{◌≡◌, ◌≢◌, ℕ, ◌+◌, ◌≤◌, ◌^◌, true, List, [], ◌∷◌, length, codes}
use Rattle.std.specs.List.{AllPairs}
use Rattle.source_meaning.specs.declared.tree.GlobalVar.{GlobalVar}
use Rattle.source_meaning.specs.declared.tree.Program.{Program}
use Rattle.source_meaning.specs.declared.tree.Stmt.{Stmt}
use Rattle.source_meaning.specs.Layout.{all_words}
use Rattle.thin_source.specs.Tokens.{Text, TokensOf}
use Rattle.thin_source.specs.Grammar.{Tokens}
use Rattle.thin_source.specs.Statements.{SpellsSource}

-- the program whose only function is `main`
abbrev pub main_program : List GlobalVar → List Stmt → Program
main_program globals body =
    record {
      globals = globals;
      registers = [];
      functions = record { name = codes "main"; value = true; params = 0; variables = 0; body = body } ∷ [];
      main = 0;
    }

-- no two globals have one name
abbrev pub NamesDiffer : List GlobalVar → Type 0
NamesDiffer globals = AllPairs (λ a b. a.name ≢ b.name) globals

-- The source is thin, and this is its program: at most 2^20 bytes, globals of different names with at most 2^20 words,
-- nesting of at most 200, and at most 65536 nodes, each global and `main` among them.
-- Each pair of brackets counts in the nesting of what it stands round, so no more than 200 stand open anywhere.
pub record IsThin (source : Text) (program : Program) : Type 0 where
  pub short : length source ≤ 2 ^ 20
  pub tokens : Tokens
  pub are_tokens : TokensOf source tokens
  pub globals : List GlobalVar
  pub body : List Stmt
  pub nesting : ℕ
  pub nodes : ℕ
  pub spelled : SpellsSource source nesting nodes globals body tokens
  pub is_program : program ≡ main_program globals body
  pub names_differ : NamesDiffer globals
  pub few_globals : length globals ≤ 4096
  pub few_words : all_words globals ≤ 2 ^ 20
  pub shallow : nesting ≤ 200
  pub few_nodes : nodes + length globals + 1 ≤ 65536
