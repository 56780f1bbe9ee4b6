-- Whatever items are read are spelled by the tokens.
use Rattle.std.proofs.Common.{◌≡◌, ℕ, zero, suc, max, ◌≤◌, Bool, true, false, List, [], ◌∷◌, ◌++◌, length, append_assoc, append-nil, Option, Some, None, bytes_eq, codes, refl, sym, ap, subst, ◌∙◌, arith, ◌⊎◌, ⊎_elim, inl, inr}
use Rattle.std.proofs.lemmas.Option.{same_Some}
use Rattle.std.proofs.lemmas.Slice.Eq.{bytes_eq-Decides}
use Rattle.xmt_base.specs.declared.Place.{Place}
use Rattle.xmt_lex.specs.declared.Token.{Token}
use Rattle.xmt_lex.specs.declared.TokenKind.{TokenKind}
use Rattle.xmt_lex.specs.declared.TokenKind.TheVariants as kind
use Rattle.xmt_lex.specs.declared.kinds.Keyword.TheVariants as k
use Rattle.xmt_lex.specs.declared.kinds.Mark.TheVariants as m
use Rattle.raw_tree.specs.declared.tree.RawName.{RawName}
use Rattle.raw_tree.specs.declared.tree.RawExpr.{RawExpr}
use Rattle.raw_tree.specs.declared.tree.RawType.{RawType}
use Rattle.raw_tree.specs.declared.tree.RawValues.{RawValues}
use Rattle.raw_tree.specs.declared.tree.RawGlobal.{RawGlobal}
use Rattle.raw_tree.specs.declared.tree.RawRegister.{RawRegister}
use Rattle.raw_tree.specs.declared.tree.RawResult.{RawResult}
use Rattle.raw_tree.specs.declared.tree.RawResult.TheVariants as result
use Rattle.raw_tree.specs.declared.tree.RawParam.{RawParam}
use Rattle.raw_tree.specs.declared.tree.RawParams.{RawParams}
use Rattle.raw_tree.specs.declared.tree.RawItem.{RawItem}
use Rattle.raw_tree.specs.declared.tree.RawItemKind.TheVariants as i
use Rattle.raw_tree.specs.Level.{Tokens, Cond, Parted, last_one, more_ones, bytes_of}
use Rattle.raw_tree.specs.Grammar.{name_of, Spells}
use Rattle.raw_tree.specs.Statements.{Key, Is, IsName, SpellsType}
use Rattle.raw_tree.specs.Items.{item, SpellsConds, last_cond, comma_behind, more_conds, SpellsArray, in_curly, SpellsValuesOf, no_values, some_values, SpellsGlobal, scalar, array, array_of_values, SpellsRegister, register, SpellsResult, int, void, main, SpellsParam, with_name, without_name, SpellsParams, nothing_between, void_between, params_between, SpellsItem, globals, registers, int_registers, function, proto, SpellsItems, last_item, more_items}
use Rattle.raw_tree.specs.Reading.{Got, GotExpr, Reader, past, comma, open_round, close_round, open_square, close_square, read_parted, readers}
use Rattle.raw_tree.specs.ReadingStatements.{semicolon, equal, open_curly, close_curly, is_name, read_name, read_type, read_opening, read_body, read_stmt, read_piece}
use Rattle.raw_tree.specs.ReadingItems.{values, values_on, values_more, values_step, values_of, read_array, values_at, read_values_of, array_behind, global_behind, read_global, read_globals, read_register, is_int, registers_of, registers_at, param_at, read_param, is_void, params_at, read_params, have_names, all_named, proto_at, read_headed, read_typed, read_main, is_head, begun_item, read_item, items, items_step, read_items}
use Rattle.raw_tree.proofs.Parted.{is_comma, past_some, sound_list}
use Rattle.raw_tree.proofs.Sound.{is_open_round, is_close_round, is_open_square, is_close_square, if_some, chosen_true, sound_constant}
use Rattle.raw_tree.proofs.SoundStatements.{sure_semicolon, sure_equal, sure_open_curly, sure_close_curly, sure_name, after_some, sound_name, sound_type, sound_opening, sound_stmt, sound_piece, whole_body, weave_end}

sure_int : (q : TokenKind) → is_int q ≡ true → q ≡ kind.Keyword k.Int
sure_int (kind.Keyword k.Int) h = refl
sure_int _ h = absurd (cc)

same_bytes : (a b : List ℕ) → bytes_eq a b ≡ true → a ≡ b
same_bytes a b h = (bytes_eq-Decides a b).0 h

sure_void : (q : TokenKind) → is_void q ≡ true → q ≡ kind.Keyword k.Void
sure_void (kind.Keyword k.Void) h = refl
sure_void _ h = absurd (cc)

weave_last : (ts x b us : Tokens) (c : Token) → ts ≡ x ++ b → b ≡ c ∷ us → ts ≡ x ++ (c ∷ us)
weave_last ts x b us c h i = cc

weave_comma : (ts x b us : Tokens) (t c : Token) → ts ≡ x ++ b → b ≡ t ∷ c ∷ us → ts ≡ (x ++ t ∷ []) ++ (c ∷ us)
weave_comma ts x b us t c h i = simp append_assoc (cc)

weave_more : (ts x b y us : Tokens) (t c d : Token) (vs : Tokens) → ts ≡ x ++ b → b ≡ t ∷ d ∷ vs → d ∷ vs ≡ y ++ (c ∷ us) → ts ≡ (x ++ t ∷ y) ++ (c ∷ us)
weave_more ts x b y us t c d vs h i j = simp append_assoc (cc)

weave_sized : (ts a b x d f y us : Tokens) (t o c : Token) → ts ≡ t ∷ a → a ≡ o ∷ b → b ≡ x ++ d → d ≡ c ∷ f → f ≡ y ++ us → ts ≡ (t ∷ o ∷ (x ++ c ∷ y)) ++ us
weave_sized ts a b x d f y us t o c h1 h2 h3 h4 h5 = simp append_assoc (cc)

weave_open : (ts a b d f y us : Tokens) (t o c e : Token) → ts ≡ t ∷ a → a ≡ o ∷ b → b ≡ c ∷ d → d ≡ e ∷ f → f ≡ y ++ us → ts ≡ (t ∷ o ∷ c ∷ e ∷ y) ++ us
weave_open ts a b d f y us t o c e h1 h2 h3 h4 h5 = cc

weave_globals : (ts x b y d us : Tokens) (e : Token) → ts ≡ x ++ b → b ≡ y ++ d → d ≡ e ∷ us → ts ≡ (x ++ (y ++ e ∷ [])) ++ us
weave_globals ts x b y d us e h i j = simp append_assoc (cc)

weave_proto : (ts a y b d us : Tokens) (o c e : Token) → ts ≡ o ∷ a → a ≡ y ++ b → b ≡ c ∷ d → d ≡ e ∷ us → ts ≡ (o ∷ (y ++ c ∷ e ∷ [])) ++ us
weave_proto ts a y b d us o c e h1 h2 h3 h4 = simp append_assoc (cc)

weave_function : (ts a y b d f z us : Tokens) (o c p l : Token) → ts ≡ o ∷ a → a ≡ y ++ b → b ≡ c ∷ d → d ≡ p ∷ f → f ≡ z ++ (l ∷ us) → ts ≡ (o ∷ (y ++ c ∷ p ∷ (z ++ l ∷ []))) ++ us
weave_function ts a y b d f z us o c p l h1 h2 h3 h4 h5 = simp append_assoc (cc)

module _ (source : List ℕ) (depth : ℕ) where
  abbrev constant : Reader
  constant = (readers source depth).of_cond

  -- ---- the values of an array

  abbrev SoundConds : Place → List RawExpr → ℕ → Tokens → Got RawValues → Type 0
  SoundConds at front base ts g =
      (b : Bool) × (all : List RawExpr) × (n : ℕ) × (x : Tokens) × (c : Token) × (ts ≡ x ++ (c ∷ g.rest)) × SpellsConds source b n all x × Is c m.CloseCurly
      × (g.tree ≡ record { at = at; values = front ++ all; comma = b }) × (g.nest ≡ max base n) × (n ≤ depth)

  abbrev SoundMore : Place → (List RawExpr → ℕ → Tokens → Option (Got RawValues)) → Type 0
  SoundMore at more = (front : List RawExpr) (base : ℕ) (ts : Tokens) (g : Got RawValues) → more front base ts ≡ Some g → SoundConds at front base ts g

  conds_on : (at : Place) (more : List RawExpr → ℕ → Tokens → Option (Got RawValues)) → SoundMore at more → (front : List RawExpr) (base : ℕ) (ts x : Tokens) (a : GotExpr) (t : Token) (us : Tokens) (g : Got RawValues) →
      ts ≡ x ++ a.rest → Spells source a.nest Cond a.tree x → a.nest ≤ depth → Is t m.Comma → a.rest ≡ t ∷ us → values_on more at (front ++ a.tree ∷ []) (max base a.nest) us ≡ Some g → SoundConds at front base ts g
  conds_on at more sound front base ts x a t [] g split spelled fits ht is found = absurd (cc)
  conds_on at more sound front base ts x a t (d ∷ vs) g split spelled fits ht is found =
      ⊎_elim
      (λ (ends, it). subst (SoundConds at front base ts) (same_Some _ g it)
      (true, a.tree ∷ [], a.nest, x ++ t ∷ [], d, weave_comma ts x a.rest vs t d split is, comma_behind t spelled ht, sure_close_curly d.kind ends, refl, refl, fits))
      (λ (other, it).
      let rest = sound (front ++ a.tree ∷ []) (max base a.nest) (d ∷ vs) g it in (
        rest.0,
        a.tree ∷ rest.1,
        max a.nest rest.2,
        x ++ t ∷ rest.3,
        rest.4,
        weave_more ts x a.rest rest.3 g.rest t rest.4 d vs split is rest.5,
        more_conds t spelled ht rest.6,
        rest.7,
        rest.8 ∙ ap (λ (z : List RawExpr). record { at = at; values = z; comma = rest.0 }) (append_assoc front (a.tree ∷ []) rest.1),
        omega (arith, rest.9),
        omega (arith, fits, rest.10),
      ))
      (chosen_true (close_curly d.kind) _ _ (Some g) found)

  conds_more : (at : Place) (more : List RawExpr → ℕ → Tokens → Option (Got RawValues)) → SoundMore at more → (front : List RawExpr) (base : ℕ) (ts x : Tokens) (a : GotExpr) (g : Got RawValues) →
      ts ≡ x ++ a.rest → Spells source a.nest Cond a.tree x → a.nest ≤ depth → (rest : Tokens) → a.rest ≡ rest → values_more more at (front ++ a.tree ∷ []) (max base a.nest) rest ≡ Some g → SoundConds at front base ts g
  conds_more at more sound front base ts x a g split spelled fits [] is found = absurd (cc)
  conds_more at more sound front base ts x a g split spelled fits (c ∷ us) is found =
      ⊎_elim
      (λ (ends, it). subst (SoundConds at front base ts) (same_Some _ g it)
      (false, a.tree ∷ [], a.nest, x, c, weave_last ts x a.rest us c split is, last_cond spelled, sure_close_curly c.kind ends, refl, refl, fits))
      (λ (other, it).
      let choice = if_some (comma c.kind) (values_on more at (front ++ a.tree ∷ []) (max base a.nest) us) g it in
      conds_on at more sound front base ts x a c us g split spelled fits (is_comma c.kind choice.0) is choice.1)
      (chosen_true (close_curly c.kind) _ _ (Some g) found)

  conds_step : (at : Place) (more : List RawExpr → ℕ → Tokens → Option (Got RawValues)) → SoundMore at more → (front : List RawExpr) (base : ℕ) (ts : Tokens) (g : Got RawValues) (answer : Option GotExpr) → constant ts ≡ answer →
      values_step more at front base answer ≡ Some g → SoundConds at front base ts g
  conds_step at more sound front base ts g None is found = absurd (cc)
  conds_step at more sound front base ts g (Some a) is found =
      let part = sound_constant source depth ts a is in
      conds_more at more sound front base ts part.0 a g part.1 part.2 part.3 a.rest refl found

  sound_conds : (turns : ℕ) (at : Place) (front : List RawExpr) (base : ℕ) (ts : Tokens) (g : Got RawValues) → values constant turns at front base ts ≡ Some g → SoundConds at front base ts g
  unfolding values
  sound_conds zero at front base ts g found = conds_step at (λ all k us. None) (λ all k us h none. absurd (cc)) front base ts g (constant ts) refl found
  sound_conds (suc f) at front base ts g found = conds_step at (values constant f at) (λ all k us h more. sound_conds f at all k us h more) front base ts g (constant ts) refl found

  abbrev SoundArray : Tokens → Got RawValues → Type 0
  SoundArray ts g = (x : Tokens) × (ts ≡ x ++ g.rest) × SpellsArray source g.nest g.tree x × (g.nest ≤ depth)

  sound_array : (ts : Tokens) (g : Got RawValues) → read_array constant ts ≡ Some g → SoundArray ts g
  sound_array [] g found = absurd (cc)
  sound_array (o ∷ ts) g found =
      let choice = if_some (open_curly o.kind) (values_of constant o.place ts) g found in
      let all = sound_conds (length ts) o.place [] 0 ts g choice.1 in
      let nests : g.nest ≡ all.2 = omega (arith, all.9) in (
        o ∷ (all.3 ++ all.4 ∷ []),
        ap (λ (w : Tokens). o ∷ w) (weave_end ts all.3 (all.4 ∷ g.rest) g.rest all.4 all.5 refl),
        subst (λ (n : ℕ). SpellsArray source n g.tree (o ∷ (all.3 ++ all.4 ∷ []))) (sym nests)
            (subst (λ (v : RawValues). SpellsArray source all.2 v (o ∷ (all.3 ++ all.4 ∷ []))) (sym all.8) (in_curly o all.4 (sure_open_curly o.kind choice.0) all.6 all.7)),
        omega (arith, nests, all.10),
      )

  abbrev SoundValuesOf : Tokens → Got (Option RawValues) → Type 0
  SoundValuesOf ts g = (x : Tokens) × (ts ≡ x ++ g.rest) × SpellsValuesOf source g.nest g.tree x × (g.nest ≤ depth)

  sound_values_at : (ts : Tokens) (g : Got (Option RawValues)) (answer : Option Tokens) → past equal ts ≡ answer → values_at constant ts answer ≡ Some g → SoundValuesOf ts g
  sound_values_at ts g None is found = subst (SoundValuesOf ts) (same_Some _ g found) ([], refl, no_values, omega arith)
  sound_values_at ts g (Some us) is found =
      let e = past_some equal ts us is in
      let one = after_some (read_array constant us) _ g found in
      let all = sound_array us one.0 one.1 in
      subst (SoundValuesOf ts) (same_Some _ g one.2) (e.0 ∷ all.0, e.1 ∙ ap (λ (w : Tokens). e.0 ∷ w) all.1, some_values e.0 (sure_equal e.0.kind e.2) all.2, all.3)

  -- ---- globals

  abbrev SoundGlobal : Tokens → Got RawGlobal → Type 0
  SoundGlobal ts g = (x : Tokens) × (ts ≡ x ++ g.rest) × SpellsGlobal source g.nest g.tree x × (g.nest ≤ depth)

  sound_sized : (ts a us : Tokens) (t o : Token) (g : Got RawGlobal) → ts ≡ t ∷ a → IsName t → a ≡ o ∷ us → Is o m.OpenSquare → (answer : Option Tokens) → past close_square us ≡ answer → array_behind constant (name_of source t) us answer ≡ Some g → SoundGlobal ts g
  sound_sized ts a us t o g first ht next ho None is found =
      let one = after_some (constant us) _ g found in
      let len = sound_constant source depth us one.0 one.1 in
      let two = after_some (past close_square one.0.rest) _ g one.2 in
      let c = past_some close_square one.0.rest two.0 two.1 in
      let three = after_some (read_values_of constant two.0) _ g two.2 in
      let v = sound_values_at two.0 three.0 (past equal two.0) refl three.1 in
      subst (SoundGlobal ts) (same_Some _ g three.2)
      (t ∷ o ∷ (len.0 ++ c.0 ∷ v.0), weave_sized ts a us len.0 one.0.rest two.0 v.0 three.0.rest t o c.0 first next len.1 c.1 v.1, array t o c.0 ht ho len.2 (is_close_square c.0.kind c.2) v.2, omega (arith, len.3, v.3))
  sound_sized ts a us t o g first ht next ho (Some vs) is found =
      let c = past_some close_square us vs is in
      let one = after_some (past equal vs) _ g found in
      let e = past_some equal vs one.0 one.1 in
      let two = after_some (read_array constant one.0) _ g one.2 in
      let all = sound_array one.0 two.0 two.1 in
      subst (SoundGlobal ts) (same_Some _ g two.2)
      (t ∷ o ∷ c.0 ∷ e.0 ∷ all.0, weave_open ts a us vs one.0 all.0 two.0.rest t o c.0 e.0 first next c.1 e.1 all.1, array_of_values t o c.0 e.0 ht ho (is_close_square c.0.kind c.2) (sure_equal e.0.kind e.2) all.2, all.3)

  sound_global_at : (ts a : Tokens) (t : Token) (g : Got RawGlobal) → ts ≡ t ∷ a → IsName t → (answer : Option Tokens) → past open_square a ≡ answer → global_behind constant (name_of source t) a answer ≡ Some g → SoundGlobal ts g
  sound_global_at ts a t g first ht None is found =
      let one = after_some (read_opening constant a) _ g found in
      let v = sound_opening source Cond depth constant (sound_constant source depth) a one.0 one.1 in
      subst (SoundGlobal ts) (same_Some _ g one.2) (t ∷ v.0, first ∙ ap (λ (w : Tokens). t ∷ w) v.1, scalar t ht v.2, v.3)
  sound_global_at ts a t g first ht (Some us) is found =
      let o = past_some open_square a us is in
      sound_sized ts a us t o.0 g first ht o.1 (is_open_square o.0.kind o.2) (past close_square us) refl found

  sound_global : (ts : Tokens) (g : Got RawGlobal) → read_global source constant ts ≡ Some g → SoundGlobal ts g
  sound_global ts g found =
      let one = after_some (read_name source ts) _ g found in
      let name = sound_name source ts one.0 one.1 in
      sound_global_at ts one.0.rest name.0 g name.1 name.2 (past open_square one.0.rest) refl
      (subst (λ (n : RawName). global_behind constant n one.0.rest (past open_square one.0.rest) ≡ Some g) name.3 one.2)

  -- an item, and the tokens behind it
  abbrev SoundItem : Tokens → Got RawItem → Type 0
  SoundItem ts g = (n : ℕ) × (x : Tokens) × (ts ≡ x ++ g.rest) × SpellsItem source n g.tree x × (n ≤ depth)

  sound_globals : (ts : Tokens) (g : Got RawItem) → read_globals source constant ts ≡ Some g → SoundItem ts g
  sound_globals ts g found =
      let one = after_some (read_type ts) _ g found in
      let ty = sound_type ts one.0 one.1 in
      let two = after_some (read_parted (read_global source constant) one.0.rest) _ g one.2 in
      let all = sound_list RawGlobal (SpellsGlobal source) (read_global source constant) depth sound_global one.0.rest two.0 two.1 in
      let three = after_some (past semicolon two.0.rest) _ g two.2 in
      let e = past_some semicolon two.0.rest three.0 three.1 in
      subst (SoundItem ts) (same_Some _ g three.2)
      (two.0.nest, ty.0 ++ (all.0 ++ e.0 ∷ []), weave_globals ts ty.0 one.0.rest all.0 two.0.rest three.0 e.0 ty.1 all.1 e.1, globals e.0 ty.2 all.2 (sure_semicolon e.0.kind e.2), all.3)

  -- ---- registers

  abbrev SoundRegister : Tokens → Got RawRegister → Type 0
  SoundRegister ts g = (x : Tokens) × (ts ≡ x ++ g.rest) × SpellsRegister source g.nest g.tree x × (g.nest ≤ depth)

  sound_register : (ts : Tokens) (g : Got RawRegister) → read_register source constant ts ≡ Some g → SoundRegister ts g
  sound_register ts g found =
      let one = after_some (read_name source ts) _ g found in
      let name = sound_name source ts one.0 one.1 in
      let two = after_some (read_opening constant one.0.rest) _ g one.2 in
      let v = sound_opening source Cond depth constant (sound_constant source depth) one.0.rest two.0 two.1 in
      subst (SoundRegister ts) (same_Some _ g two.2) (
        name.0 ∷ v.0,
        name.1 ∙ ap (λ (w : Tokens). name.0 ∷ w) v.1,
        subst (λ (n : RawName). SpellsRegister source two.0.nest (record { name = n; value = two.0.tree }) (name.0 ∷ v.0)) (sym name.3) (register name.0 name.2 v.2),
        v.3,
      )

  abbrev Behind : Token → Tokens → Got RawItem → Type 0
  Behind t ts g = (n : ℕ) × (y : Tokens) × (ts ≡ y ++ g.rest) × SpellsItem source n g.tree (t ∷ y) × (n ≤ depth)

  item_whole : (t : Token) (ts : Tokens) (g : Got RawItem) → Behind t ts g → SoundItem (t ∷ ts) g
  item_whole t ts g (n, y, split, spelled, fits) = (n, t ∷ y, ap (λ (w : Tokens). t ∷ w) split, spelled, fits)

  abbrev SoundRegisters : Place → Bool → Tokens → Got RawItem → Type 0
  SoundRegisters at b ts g = (all : List RawRegister) × (n : ℕ) × (x : Tokens) × (e : Token) × (ts ≡ x ++ (e ∷ g.rest)) × Parted RawRegister (SpellsRegister source) n all x × Is e m.Semicolon × (g.tree ≡ item at (i.Registers b all)) × (n ≤ depth)

  sound_registers_of : (at : Place) (b : Bool) (ts : Tokens) (g : Got RawItem) → registers_of source constant at b ts ≡ Some g → SoundRegisters at b ts g
  sound_registers_of at b ts g found =
      let one = after_some (read_parted (read_register source constant) ts) _ g found in
      let all = sound_list RawRegister (SpellsRegister source) (read_register source constant) depth sound_register ts one.0 one.1 in
      let two = after_some (past semicolon one.0.rest) _ g one.2 in
      let e = past_some semicolon one.0.rest two.0 two.1 in
      subst (SoundRegisters at b ts) (same_Some _ g two.2)
      (one.0.tree, one.0.nest, all.0, e.0, weave_last ts all.0 one.0.rest two.0 e.0 all.1 e.1, all.2, sure_semicolon e.0.kind e.2, refl, all.3)

  sound_registers : (t : Token) (ts : Tokens) (g : Got RawItem) → Key t k.PsBaseReg → (answer : Option Tokens) → past is_int ts ≡ answer → registers_at source constant t.place ts answer ≡ Some g → Behind t ts g
  sound_registers t ts g ht None is found =
      let all = sound_registers_of t.place false ts g found in
      (all.1, all.2 ++ all.3 ∷ [], weave_end ts all.2 (all.3 ∷ g.rest) g.rest all.3 all.4 refl, subst (λ (z : RawItem). SpellsItem source all.1 z (t ∷ (all.2 ++ all.3 ∷ []))) (sym all.7) (registers t all.3 ht all.5 all.6), all.8)
  sound_registers t ts g ht (Some us) is found =
      let u = past_some is_int ts us is in
      let all = sound_registers_of t.place true us g found in (
        all.1,
        u.0 ∷ (all.2 ++ all.3 ∷ []),
        u.1 ∙ ap (λ (w : Tokens). u.0 ∷ w) (weave_end us all.2 (all.3 ∷ g.rest) g.rest all.3 all.4 refl),
        subst (λ (z : RawItem). SpellsItem source all.1 z (t ∷ u.0 ∷ (all.2 ++ all.3 ∷ []))) (sym all.7) (int_registers t u.0 all.3 ht (sure_int u.0.kind u.2) all.5 all.6),
        all.8,
      )

  -- ---- functions and prototypes

  abbrev SoundParam : Tokens → Got RawParam → Type 0
  SoundParam ts g = (x : Tokens) × (ts ≡ x ++ g.rest) × SpellsParam source false g.nest g.tree x × (g.nest ≤ 0)

  sound_param_at : (ts x : Tokens) (ty : RawType) (rest : Tokens) (g : Got RawParam) → ts ≡ x ++ rest → SpellsType ty x → param_at source (record { tree = record { ty = ty; name = None }; nest = 0; rest = rest }) rest ≡ Some g → SoundParam ts g
  sound_param_at ts x ty [] g split spelled found = subst (SoundParam ts) (same_Some _ g found) (x, split, without_name refl spelled, omega arith)
  sound_param_at ts x ty (t ∷ us) g split spelled found =
      ⊎_elim
      (λ (is, it). subst (SoundParam ts) (same_Some _ g it) (x ++ t ∷ [], weave_end ts x (t ∷ us) us t split refl, with_name t spelled (sure_name t.kind is), omega arith))
      (λ (other, it). subst (SoundParam ts) (same_Some _ g it) (x, split, without_name refl spelled, omega arith))
      (chosen_true (is_name t.kind) _ _ (Some g) found)

  sound_param : (ts : Tokens) (g : Got RawParam) → read_param source ts ≡ Some g → SoundParam ts g
  sound_param ts g found =
      let one = after_some (read_type ts) _ g found in
      let ty = sound_type ts one.0 one.1 in
      sound_param_at ts ty.0 one.0.tree one.0.rest g ty.1 ty.2 one.2

  abbrev SoundParams : Tokens → Got RawParams → Type 0
  SoundParams ts g = (x : Tokens) × (ts ≡ x ++ g.rest) × SpellsParams source false g.tree x

  sound_params_at : (ts : Tokens) (g : Got RawParams) (answer : Option Tokens) → past is_void ts ≡ answer → params_at source ts answer ≡ Some g → SoundParams ts g
  sound_params_at ts g None is found =
      let one = after_some (read_parted (read_param source) ts) _ g found in
      let all = sound_list RawParam (SpellsParam source false) (read_param source) 0 sound_param ts one.0 one.1 in
      subst (SoundParams ts) (same_Some _ g one.2) (all.0, all.1, params_between all.2)
  sound_params_at ts g (Some us) is found =
      let t = past_some is_void ts us is in
      subst (SoundParams ts) (same_Some _ g found) (t.0 ∷ [], t.1, void_between t.0 (sure_void t.0.kind t.2))

  sound_params : (ts : Tokens) (g : Got RawParams) → read_params source ts ≡ Some g → SoundParams ts g
  sound_params [] g found = absurd (cc)
  sound_params (t ∷ ts) g found =
      ⊎_elim
      (λ (is, it). subst (SoundParams (t ∷ ts)) (same_Some _ g it) ([], refl, nothing_between))
      (λ (other, it). sound_params_at (t ∷ ts) g (past is_void (t ∷ ts)) refl it)
      (chosen_true (close_round t.kind) _ _ (Some g) found)

  named_list : {n : ℕ} {all : List RawParam} {x : Tokens} → Parted RawParam (SpellsParam source false) n all x → have_names all ≡ true → Parted RawParam (SpellsParam source true) n all x
  named_list (last_one (with_name t types h)) named = last_one (with_name t types h)
  named_list (last_one (without_name loose types)) named = absurd (cc)
  named_list (more_ones u (with_name t types h) k rest) named = more_ones u (with_name t types h) k (named_list rest named)
  named_list (more_ones u (without_name loose types) k rest) named = absurd (cc)

  named_params : {all : RawParams} {x : Tokens} → SpellsParams source false all x → all_named all ≡ true → SpellsParams source true all x
  named_params nothing_between named = nothing_between
  named_params (void_between t h) named = void_between t h
  named_params (params_between list) named = params_between (named_list list named)

  -- behind a head
  abbrev SoundHeaded : Place → RawResult → Tokens → Got RawItem → Type 0
  SoundHeaded at head ts g = (n : ℕ) × (y : Tokens) × (ts ≡ y ++ g.rest) × ((x : Tokens) → SpellsResult source head at x → SpellsItem source n g.tree (x ++ y)) × (n ≤ depth)

  sound_proto_at : (at : Place) (head : RawResult) (all : RawParams) (ts a y b d : Tokens) (o c : Token) (g : Got RawItem) → ts ≡ o ∷ a → Is o m.OpenRound → a ≡ y ++ b → SpellsParams source false all y → b ≡ c ∷ d → Is c m.CloseRound →
      (answer : Option Tokens) → past semicolon d ≡ answer → proto_at (read_piece source depth) at head all d answer ≡ Some g → SoundHeaded at head ts g
  sound_proto_at at head all ts a y b d o c g first ho next spelled then_close hc None is found =
      let choice = if_some (all_named all) _ g found in
      let one = after_some (past open_curly d) _ g choice.1 in
      let p = past_some open_curly d one.0 one.1 in
      let two = after_some (read_body (read_piece source depth) one.0) _ g one.2 in
      let code = whole_body source depth (read_piece source depth) (sound_piece source depth (read_stmt source depth) (sound_stmt source depth)) one.0 two.0 two.1 in
      subst (SoundHeaded at head ts) (same_Some _ g two.2) (
        code.0,
        o ∷ (y ++ c ∷ p.0 ∷ (code.1 ++ code.2 ∷ [])),
        weave_function ts a y b d one.0 code.1 two.0.rest o c p.0 code.2 first next then_close p.1 code.3,
        λ x h. function o c p.0 code.2 h ho (named_params spelled choice.0) hc (sure_open_curly p.0.kind p.2) code.4 code.5,
        code.6,
      )
  sound_proto_at at head all ts a y b d o c g first ho next spelled then_close hc (Some us) is found =
      let e = past_some semicolon d us is in
      subst (SoundHeaded at head ts) (same_Some _ g found)
      (0, o ∷ (y ++ c ∷ e.0 ∷ []), weave_proto ts a y b d us o c e.0 first next then_close e.1, λ x h. proto o c e.0 h ho spelled hc (sure_semicolon e.0.kind e.2), omega arith)

  sound_headed : (at : Place) (head : RawResult) (ts : Tokens) (g : Got RawItem) → read_headed source (read_piece source depth) at head ts ≡ Some g → SoundHeaded at head ts g
  sound_headed at head ts g found =
      let one = after_some (past open_round ts) _ g found in
      let o = past_some open_round ts one.0 one.1 in
      let two = after_some (read_params source one.0) _ g one.2 in
      let all = sound_params one.0 two.0 two.1 in
      let three = after_some (past close_round two.0.rest) _ g two.2 in
      let c = past_some close_round two.0.rest three.0 three.1 in
      sound_proto_at at head two.0.tree ts one.0 all.0 two.0.rest three.0 o.0 c.0 g o.1 (is_open_round o.0.kind o.2) all.1 all.2 c.1 (is_close_round c.0.kind c.2) (past semicolon three.0) refl three.2

  sound_typed : (t : Token) (made : RawName → RawResult) → ((u : Token) → IsName u → SpellsResult source (made (name_of source u)) t.place (t ∷ u ∷ [])) → (ts : Tokens) (g : Got RawItem) → read_typed source (read_piece source depth) t.place made ts ≡ Some g → Behind t ts g
  sound_typed t made spelled ts g found =
      let one = after_some (read_name source ts) _ g found in
      let name = sound_name source ts one.0 one.1 in
      let rest = sound_headed t.place (made (name_of source name.0)) one.0.rest g (subst (λ (n : RawName). read_headed source (read_piece source depth) t.place (made n) one.0.rest ≡ Some g) name.3 one.2) in
      (rest.0, name.0 ∷ rest.1, name.1 ∙ ap (λ (w : Tokens). name.0 ∷ w) rest.2, rest.3 (t ∷ name.0 ∷ []) (spelled name.0 name.2), rest.4)

  sound_main : (t : Token) (ts : Tokens) (g : Got RawItem) → IsName t → read_main source (read_piece source depth) t ts ≡ Some g → Behind t ts g
  sound_main t ts g ht found =
      let choice = if_some (bytes_eq (bytes_of source t) (codes "main")) _ g found in
      let rest = sound_headed t.place (result.Main (name_of source t)) ts g choice.1 in
      (rest.0, rest.1, rest.2, rest.3 (t ∷ []) (main t ht (same_bytes (bytes_of source t) (codes "main") choice.0)), rest.4)

  -- ---- items

  sound_begun : (t : Token) (ts : Tokens) (g : Got RawItem) (w : TokenKind) → t.kind ≡ w → begun_item source constant (read_piece source depth) t w ts ≡ Some g → SoundItem (t ∷ ts) g
  sound_begun t ts g (kind.Keyword k.PsBaseReg) is found = item_whole t ts g (sound_registers t ts g is (past is_int ts) refl found)
  sound_begun t ts g (kind.Keyword k.Void) is found = item_whole t ts g (sound_typed t (λ name. result.Void name) (λ u h. void t u is h) ts g found)
  sound_begun t ts g (kind.Keyword k.Int) is found =
      ⊎_elim
      (λ (head, it). item_whole t ts g (sound_typed t (λ name. result.Int name) (λ u h. int t u is h) ts g it))
      (λ (other, it). sound_globals (t ∷ ts) g it)
      (chosen_true (is_head ts) _ _ (Some g) found)
  sound_begun t ts g (kind.Keyword k.Const) is found = sound_globals (t ∷ ts) g found
  sound_begun t ts g (kind.Keyword k.Volatile) is found = sound_globals (t ∷ ts) g found
  sound_begun t ts g kind.Name is found = item_whole t ts g (sound_main t ts g is found)
  sound_begun t ts g _ is found = absurd (cc)

  sound_item : (ts : Tokens) (g : Got RawItem) → read_item source depth ts ≡ Some g → SoundItem ts g
  sound_item [] g found = absurd (cc)
  sound_item (t ∷ ts) g found = sound_begun t ts g t.kind refl found

  abbrev SoundItems : List RawItem → Tokens → Got (List RawItem) → Type 0
  SoundItems front ts g = ((ts ≡ []) × (g.tree ≡ front)) ⊎ ((all : List RawItem) × (n : ℕ) × SpellsItems source n all ts × (g.tree ≡ front ++ all) × (n ≤ depth))

  items_joined : (front : List RawItem) (ts : Tokens) (a : Got RawItem) (g : Got (List RawItem)) → SoundItem ts a → SoundItems (front ++ a.tree ∷ []) a.rest g → SoundItems front ts g
  items_joined front ts a g (n, x, split, spelled, fits) rest =
      ⊎_elim
      (λ (nothing_left, it). inr (a.tree ∷ [], n, subst (λ (z : Tokens). SpellsItems source n (a.tree ∷ []) z) (sym (split ∙ ap (λ (w : Tokens). x ++ w) nothing_left ∙ append-nil x)) (last_item spelled), it, fits))
      (λ (all, k0, others, it, small). inr (
        a.tree ∷ all,
        max n k0,
        subst (λ (z : Tokens). SpellsItems source (max n k0) (a.tree ∷ all) z) (sym split) (more_items spelled others),
        it ∙ append_assoc front (a.tree ∷ []) all,
        omega (arith, fits, small),
      ))
      rest

  items_stepped : (f : ℕ) (front : List RawItem) (ts : Tokens) (g : Got (List RawItem)) → ((all : List RawItem) (us : Tokens) (h : Got (List RawItem)) → items (read_item source depth) f all us ≡ Some h → SoundItems all us h) → (answer : Option (Got RawItem)) → read_item source depth ts ≡ answer →
      items_step (items (read_item source depth) f) front answer ≡ Some g → SoundItems front ts g
  items_stepped f front ts g more None is found = absurd (cc)
  items_stepped f front ts g more (Some a) is found = items_joined front ts a g (sound_item ts a is) (more (front ++ a.tree ∷ []) a.rest g found)

  sound_items : (turns : ℕ) (front : List RawItem) (ts : Tokens) (g : Got (List RawItem)) → items (read_item source depth) turns front ts ≡ Some g → SoundItems front ts g
  unfolding items
  sound_items turns front [] g found = inl (refl, sym (ap (λ (h : Got (List RawItem)). h.tree) (same_Some _ g found)))
  sound_items zero front (t ∷ ts) g found = absurd (cc)
  sound_items (suc f) front (t ∷ ts) g found = items_stepped f front (t ∷ ts) g (λ all us h more. sound_items f all us h more) (read_item source depth (t ∷ ts)) refl found

  -- what is read of all tokens is spelled by them
  pub sound_program : (ts : Tokens) (g : Got (List RawItem)) → read_items source depth ts ≡ Some g → (n : ℕ) × SpellsItems source n g.tree ts × (n ≤ depth)
  sound_program [] g found = absurd (cc)
  sound_program (t ∷ ts) g found =
      ⊎_elim
      (λ (nothing_left, it). absurd (cc))
      (λ (all, n, spelled, it, fits). (n, subst (λ (z : List RawItem). SpellsItems source n z (t ∷ ts)) (sym it) spelled, fits))
      (sound_items (length (t ∷ ts)) [] (t ∷ ts) g found)
