-- Reading a statement from the front of some tokens, by its first token.
-- Depth bounds its nesting, which is not counted here.
use Rattle.std.specs.Prelude.{ℕ, zero, suc, pred, length, Bool, true, false, if◌then◌else◌, List, [], ◌∷◌, ◌++◌, Option, Some, None}
use Rattle.xmt_lex.specs.declared.Token.{Token}
use Rattle.xmt_lex.specs.declared.TokenKind.{TokenKind}
use Rattle.xmt_lex.specs.declared.TokenKind.TheVariants as kind
use Rattle.xmt_lex.specs.declared.kinds.Keyword.TheVariants as k
use Rattle.xmt_lex.specs.declared.kinds.Mark.TheVariants as m
use Rattle.raw_tree.specs.declared.tree.Qualifier.{Qualifier}
use Rattle.raw_tree.specs.declared.tree.Qualifier.TheVariants as q
use Rattle.raw_tree.specs.declared.tree.RawName.{RawName}
use Rattle.raw_tree.specs.declared.tree.RawText.{RawText}
use Rattle.raw_tree.specs.declared.tree.RawExpr.{RawExpr}
use Rattle.raw_tree.specs.declared.tree.RawType.{RawType}
use Rattle.raw_tree.specs.declared.tree.RawLocal.{RawLocal}
use Rattle.raw_tree.specs.declared.tree.RawDecl.{RawDecl}
use Rattle.raw_tree.specs.declared.tree.RawFirst.{RawFirst}
use Rattle.raw_tree.specs.declared.tree.RawFirst.TheVariants as first
use Rattle.raw_tree.specs.declared.tree.RawStmt.{RawStmt}
use Rattle.raw_tree.specs.declared.tree.RawStmtKind.TheVariants as s
use Rattle.raw_tree.specs.Level.{Tokens}
use Rattle.raw_tree.specs.Grammar.{name_of}
use Rattle.raw_tree.specs.Statements.{text_of, statement}
use Rattle.raw_tree.specs.Reading.{Got, ReaderOf, Reader, got, past, comma, open_round, close_round, read_parted, step_place, expression}

-- what follows on an answer
abbrev pub after : {A B : Type 0} → Option A → (A → Option B) → Option B
after None next = None
after (Some a) next = next a

abbrev pub semicolon : TokenKind → Bool
semicolon (kind.Mark m.Semicolon) = true
semicolon _ = false

abbrev pub equal : TokenKind → Bool
equal (kind.Mark m.Equal) = true
equal _ = false

abbrev pub open_curly : TokenKind → Bool
open_curly (kind.Mark m.OpenCurly) = true
open_curly _ = false

abbrev pub close_curly : TokenKind → Bool
close_curly (kind.Mark m.CloseCurly) = true
close_curly _ = false

abbrev pub is_else : TokenKind → Bool
is_else (kind.Keyword k.Else) = true
is_else _ = false

abbrev pub is_while : TokenKind → Bool
is_while (kind.Keyword k.While) = true
is_while _ = false

abbrev pub is_name : TokenKind → Bool
is_name kind.Name = true
is_name _ = false

abbrev pub is_text : TokenKind → Bool
is_text kind.Text = true
is_text _ = false

abbrev pub begins_type : TokenKind → Bool
begins_type (kind.Keyword k.Int) = true
begins_type (kind.Keyword k.Const) = true
begins_type (kind.Keyword k.Volatile) = true
begins_type _ = false

-- ---- names, texts, types

abbrev pub read_name : (source : List ℕ) → ReaderOf RawName
read_name source [] = None
read_name source (t ∷ ts) = if is_name t.kind then got (name_of source t) 0 ts else None

abbrev pub read_text : (source : List ℕ) → ReaderOf RawText
read_text source [] = None
read_text source (t ∷ ts) = if is_text t.kind then got (text_of source t) 0 ts else None

abbrev pub read_word : (TokenKind → (List Qualifier → Option (Got (List Qualifier))) → List Qualifier → Tokens → Option (Got (List Qualifier)))
read_word (kind.Keyword k.Int) more done ts = got done 0 ts
read_word (kind.Keyword k.Const) more done ts = more (done ++ q.Const ∷ [])
read_word (kind.Keyword k.Volatile) more done ts = more (done ++ q.Volatile ∷ [])
read_word _ more done ts = None

-- the qualifiers behind those that are done, up to and with `int`
abbrev pub read_words : List Qualifier → Tokens → Option (Got (List Qualifier))
read_words done [] = None
read_words done (t ∷ ts) = read_word t.kind (λ all. read_words all ts) done ts

abbrev pub read_type : ReaderOf RawType
read_type [] = None
read_type (t ∷ ts) = after (read_words [] (t ∷ ts)) (λ g. got (record { at = t.place; qualifiers = g.tree }) 0 g.rest)

-- ---- declarations

abbrev pub opening_value : Option (Got RawExpr) → Option (Got (Option RawExpr))
opening_value None = None
opening_value (Some g) = got (Some g.tree) g.nest g.rest

abbrev pub opening_at : Reader → Tokens → Option Tokens → Option (Got (Option RawExpr))
opening_at value ts None = got None 0 ts
opening_at value ts (Some us) = opening_value (value us)

-- a `=` and a value, or nothing
abbrev pub read_opening : Reader → ReaderOf (Option RawExpr)
read_opening value ts = opening_at value ts (past equal ts)

abbrev pub read_local : (source : List ℕ) → Reader → ReaderOf RawLocal
read_local source whole ts =
    after (read_name source ts) (λ name. after (read_opening whole name.rest) (λ v. got (record { name = name.tree; value = v.tree }) v.nest v.rest))

abbrev pub read_decl : (source : List ℕ) → Reader → ReaderOf RawDecl
read_decl source whole ts =
    after (read_type ts) (λ ty. after (read_parted (read_local source whole) ty.rest) (λ all.
    after (past semicolon all.rest) (λ us. got (record { at = ty.tree.at; ty = ty.tree; locals = all.tree }) all.nest us)))

-- ---- the parts of statements

-- an expression in round brackets
abbrev pub read_round : Reader → Reader
read_round whole ts = after (past open_round ts) (λ us. after (whole us) (λ a. after (past close_round a.rest) (λ vs. got a.tree a.nest vs)))

-- an expression, or nothing before a token that passes
abbrev pub read_maybe : (TokenKind → Bool) → Reader → ReaderOf (Option RawExpr)
read_maybe stop whole [] = None
read_maybe stop whole (t ∷ ts) = if stop t.kind then got None 0 (t ∷ ts) else opening_value (whole (t ∷ ts))

-- an expression and a semicolon, or a semicolon alone
abbrev pub first_value : Got (Option RawExpr) → Tokens → Option (Got RawFirst)
first_value g us = got (first.Value g.tree) 0 us

abbrev pub read_first : (source : List ℕ) → Reader → ReaderOf RawFirst
read_first source whole [] = None
read_first source whole (t ∷ ts) =
    if begins_type t.kind then after (read_decl source whole (t ∷ ts)) (λ d. got (first.Decl d.tree) 0 d.rest)
    else after (read_maybe semicolon whole (t ∷ ts)) (λ g. after (past semicolon g.rest) (λ us. first_value g us))

abbrev pub behind_at : Reader → Tokens → Option Tokens → Option (Got (List RawExpr))
behind_at whole ts None = got [] 0 ts
behind_at whole ts (Some us) = read_parted whole us

-- the values behind a text
abbrev pub read_behind : Reader → ReaderOf (List RawExpr)
read_behind whole ts = behind_at whole ts (past comma ts)

-- declarations and statements up to and with a `}`, behind those that are done
abbrev pub body_step : (List RawStmt → Tokens → Option (Got (List RawStmt))) → List RawStmt → Option (Got RawStmt) → Option (Got (List RawStmt))
body_step more done None = None
body_step more done (Some g) = more (done ++ g.tree ∷ []) g.rest

unfoldable pub body : ReaderOf RawStmt → (turns : ℕ) → List RawStmt → Tokens → Option (Got (List RawStmt))
body piece turns done [] = None
body piece zero done (t ∷ ts) = if close_curly t.kind then got done 0 ts else None
body piece (suc turns) done (t ∷ ts) = if close_curly t.kind then got done 0 ts else body_step (body piece turns) done (piece (t ∷ ts))

abbrev pub read_body : ReaderOf RawStmt → ReaderOf (List RawStmt)
read_body piece ts = body piece (length ts) [] ts

-- ---- statements, behind their first token

-- with the statement behind an `else`, or without
abbrev pub with_else : Token → RawExpr → RawStmt → Option (Got RawStmt) → Option (Got RawStmt)
with_else t a b None = None
with_else t a b (Some g) = got (statement t.place (s.If a b (Some g.tree))) 0 g.rest

abbrev pub else_part : ReaderOf RawStmt → Token → RawExpr → RawStmt → Tokens → Option Tokens → Option (Got RawStmt)
else_part inner t a b ts None = got (statement t.place (s.If a b None)) 0 ts
else_part inner t a b ts (Some us) = with_else t a b (inner us)

abbrev pub read_if : Reader → ReaderOf RawStmt → Token → ReaderOf RawStmt
read_if whole inner t ts = after (read_round whole ts) (λ a. after (inner a.rest) (λ b. else_part inner t a.tree b.tree b.rest (past is_else b.rest)))

abbrev pub read_while : Reader → ReaderOf RawStmt → Token → ReaderOf RawStmt
read_while whole inner t ts = after (read_round whole ts) (λ a. after (inner a.rest) (λ b. got (statement t.place (s.While a.tree b.tree)) 0 b.rest))

abbrev pub read_do : Reader → ReaderOf RawStmt → Token → ReaderOf RawStmt
read_do whole inner t ts =
    after (inner ts) (λ b. after (past is_while b.rest) (λ us. after (read_round whole us) (λ a. after (past semicolon a.rest) (λ vs.
    got (statement t.place (s.Do b.tree a.tree)) 0 vs))))

-- the first part is a statement of its own, so less reads its expressions
abbrev pub read_for : (source : List ℕ) → Reader → Reader → ReaderOf RawStmt → Token → ReaderOf RawStmt
read_for source whole less inner t ts =
    after (past open_round ts) (λ us. after (read_first source less us) (λ f. after (read_maybe semicolon whole f.rest) (λ a. after (past semicolon a.rest) (λ vs.
    after (read_maybe close_round whole vs) (λ b. after (past close_round b.rest) (λ ws. after (inner ws) (λ c.
    got (statement t.place (s.For f.tree a.tree b.tree c.tree)) 0 c.rest)))))))

abbrev pub read_return : Reader → Token → ReaderOf RawStmt
read_return whole t ts = after (read_maybe semicolon whole ts) (λ a. after (past semicolon a.rest) (λ us. got (statement t.place (s.Return a.tree)) 0 us))

abbrev pub read_spawn : Reader → ReaderOf RawStmt → Token → ReaderOf RawStmt
read_spawn whole piece t ts =
    after (past open_round ts) (λ us. after (whole us) (λ a. after (past comma a.rest) (λ vs. after (whole vs) (λ b. after (past close_round b.rest) (λ ws.
    after (past open_curly ws) (λ zs. after (read_body piece zs) (λ c.
    got (statement t.place (s.Spawn a.tree b.tree c.tree)) 0 c.rest)))))))

abbrev pub read_ps : (source : List ℕ) → Token → ReaderOf RawStmt
read_ps source t ts =
    after (past open_round ts) (λ us. after (read_name source us) (λ a. after (past comma a.rest) (λ vs. after (read_name source vs) (λ b. after (past close_round b.rest) (λ ws.
    after (past semicolon ws) (λ zs. got (statement t.place (s.Ps a.tree b.tree)) 0 zs))))))

abbrev pub read_psm : (source : List ℕ) → Reader → Token → ReaderOf RawStmt
read_psm source whole t ts =
    after (past open_round ts) (λ us. after (read_name source us) (λ a. after (past comma a.rest) (λ vs. after (step_place source whole vs) (λ b. after (past close_round b.rest) (λ ws.
    after (past semicolon ws) (λ zs. got (statement t.place (s.Psm a.tree b.tree)) 0 zs))))))

abbrev pub read_print : (source : List ℕ) → Reader → Token → ReaderOf RawStmt
read_print source whole t ts =
    after (past open_round ts) (λ us. after (read_text source us) (λ a. after (read_behind whole a.rest) (λ b. after (past close_round b.rest) (λ ws.
    after (past semicolon ws) (λ zs. got (statement t.place (s.Print a.tree b.tree)) 0 zs)))))

abbrev pub read_block : ReaderOf RawStmt → Token → ReaderOf RawStmt
read_block piece t ts = after (read_body piece ts) (λ c. got (statement t.place (s.Block c.tree)) 0 c.rest)

-- a statement that ends behind its keyword
abbrev pub read_word_alone : RawStmt → ReaderOf RawStmt
read_word_alone a ts = after (past semicolon ts) (λ us. got a 0 us)

abbrev pub read_declare : (source : List ℕ) → Reader → ReaderOf RawStmt
read_declare source whole ts = after (read_decl source whole ts) (λ d. got (statement d.tree.at (s.Decl d.tree)) 0 d.rest)

abbrev pub read_value : Reader → ReaderOf RawStmt
read_value whole ts = after (whole ts) (λ a. after (past semicolon a.rest) (λ us. got (statement a.tree.at (s.Value a.tree)) 0 us))

-- inner reads a statement that stands inside, and piece a declaration or a statement of a body
abbrev pub begun_stmt : (source : List ℕ) → Reader → Reader → ReaderOf RawStmt → ReaderOf RawStmt → Token → TokenKind → ReaderOf RawStmt
begun_stmt source whole less inner piece t (kind.Mark m.Semicolon) ts = got (statement t.place s.Empty) 0 ts
begun_stmt source whole less inner piece t (kind.Mark m.OpenCurly) ts = read_block piece t ts
begun_stmt source whole less inner piece t (kind.Keyword k.If) ts = read_if whole inner t ts
begun_stmt source whole less inner piece t (kind.Keyword k.While) ts = read_while whole inner t ts
begun_stmt source whole less inner piece t (kind.Keyword k.Do) ts = read_do whole inner t ts
begun_stmt source whole less inner piece t (kind.Keyword k.For) ts = read_for source whole less inner t ts
begun_stmt source whole less inner piece t (kind.Keyword k.Break) ts = read_word_alone (statement t.place s.Break) ts
begun_stmt source whole less inner piece t (kind.Keyword k.Continue) ts = read_word_alone (statement t.place s.Continue) ts
begun_stmt source whole less inner piece t (kind.Keyword k.Return) ts = read_return whole t ts
begun_stmt source whole less inner piece t (kind.Keyword k.Spawn) ts = read_spawn whole piece t ts
begun_stmt source whole less inner piece t (kind.Keyword k.Ps) ts = read_ps source t ts
begun_stmt source whole less inner piece t (kind.Keyword k.Psm) ts = read_psm source whole t ts
begun_stmt source whole less inner piece t (kind.Keyword k.Printf) ts = read_print source whole t ts
begun_stmt source whole less inner piece t (kind.Keyword k.Int) ts = None
begun_stmt source whole less inner piece t (kind.Keyword k.Const) ts = None
begun_stmt source whole less inner piece t (kind.Keyword k.Volatile) ts = None
begun_stmt source whole less inner piece t _ ts = read_value whole (t ∷ ts)

abbrev pub stmt_of : (source : List ℕ) → Reader → Reader → ReaderOf RawStmt → ReaderOf RawStmt → ReaderOf RawStmt
stmt_of source whole less inner piece [] = None
stmt_of source whole less inner piece (t ∷ ts) = begun_stmt source whole less inner piece t t.kind ts

-- a declaration is as deep as a statement with its values
abbrev pub declare_at : (source : List ℕ) (depth : ℕ) → ReaderOf RawStmt
declare_at source zero ts = None
declare_at source (suc d) ts = read_declare source (expression source d) ts

-- what stands in a body: a declaration where the first token begins a type, and a statement elsewhere
abbrev pub piece_of : (source : List ℕ) (depth : ℕ) → ReaderOf RawStmt → ReaderOf RawStmt
piece_of source depth inner [] = None
piece_of source depth inner (t ∷ ts) = if begins_type t.kind then declare_at source depth (t ∷ ts) else inner (t ∷ ts)

-- a statement of nesting at most depth; an `else` goes to the nearest `if`
unfoldable pub read_stmt : (source : List ℕ) (depth : ℕ) → ReaderOf RawStmt
read_stmt source zero ts = None
read_stmt source (suc d) ts = stmt_of source (expression source d) (expression source (pred d)) (read_stmt source d) (piece_of source d (read_stmt source d)) ts

-- a declaration or a statement of nesting at most depth
abbrev pub read_piece : (source : List ℕ) (depth : ℕ) → ReaderOf RawStmt
read_piece source depth = piece_of source depth (read_stmt source depth)
