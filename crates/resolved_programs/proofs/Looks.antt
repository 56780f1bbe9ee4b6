-- In the names of a file the first declaration of a name counts, and stays.
use Rattle.std.proofs.Common.{◌≡◌, refl, sym, ◌∙◌, ap, ℕ, Bool, true, false, cond, List, [], ◌∷◌, ◌++◌, length, Option, Some, None}
use Rattle.std.proofs.lemmas.Bool.{true≢false, false≢true}
use Rattle.std.specs.Prelude.{is_some, if◌then◌else◌}
use Rattle.std.specs.Str.{bytes_eq}
use Rattle.std.proofs.lemmas.Slice.Eq.{bytes_eq-Decides}
use Rattle.raw_tree.specs.declared.tree.RawName.{RawName}
use Rattle.raw_tree.specs.declared.tree.RawGlobal.{RawGlobal}
use Rattle.raw_tree.specs.declared.tree.RawRegister.{RawRegister}
use Rattle.raw_tree.specs.declared.tree.RawItem.{RawItem}
use Rattle.raw_tree.specs.declared.tree.RawItemKind.{RawItemKind}
use Rattle.raw_tree.specs.declared.tree.RawItemKind.TheVariants as i
use Rattle.name_scopes.specs.declared.scope.Meaning.{Meaning}
use Rattle.name_scopes.specs.declared.scope.Meaning.TheVariants as means
use Rattle.name_scopes.specs.declared.scope.Binding.{Binding}
use Rattle.name_scopes.specs.declared.scope.Declared.{Declared}
use Rattle.name_scopes.specs.Scope.{look, or_hidden, declare}
use Rattle.name_scopes.specs.Locals.{is_constant}
use Rattle.name_faults.specs.Nodes.{params_of}
use Rattle.name_faults.specs.Items.{Names, declare_first, enter_global, enter_register, enter_globals, enter_registers, enter, enter_all, name_of_global, meaning_of_global, name_of_head, has_value}

same_bytes : (a b : List ℕ) → bytes_eq a b ≡ true → a ≡ b
same_bytes a b = (bytes_eq-Decides a b).0

pub equal_bytes : (a b : List ℕ) → a ≡ b → bytes_eq a b ≡ true
equal_bytes a b = (bytes_eq-Decides a b).1

or_assoc : (a b c : Option Binding) → or_hidden a (or_hidden b c) ≡ or_hidden (or_hidden a b) c
or_assoc a b None = refl
or_assoc a b (Some c) = refl

or_none : (a : Option Binding) → or_hidden None a ≡ a
or_none None = refl
or_none (Some a) = refl

look_behind : (ds : List Declared) (d : Declared) (name : List ℕ) → look (ds ++ d ∷ []) name ≡ or_hidden (look ds name) (cond (bytes_eq name d.name) (Some d.binding) None)
look_behind [] d name = sym (or_none (cond (bytes_eq name d.name) (Some d.binding) None))
look_behind (x ∷ ds) d name =
    ap (λ rest. or_hidden (cond (bytes_eq name x.name) (Some x.binding) None) rest) (look_behind ds d name)
    ∙ or_assoc (cond (bytes_eq name x.name) (Some x.binding) None) (look ds name) (cond (bytes_eq name d.name) (Some d.binding) None)

-- a name that is declared stands for the same behind a further declaration
pub stays : (name : RawName) (what : Meaning) (ds : List Declared) (other : List ℕ) (b : Binding) → look ds other ≡ Some b → look (declare_first name what ds) other ≡ Some b
stays name what ds other b found = chosen (is_some (look ds name.bytes)) refl
  where
    apart : (same : Bool) → bytes_eq other name.bytes ≡ same → is_some (look ds name.bytes) ≡ false → or_hidden (look ds other) (cond same (Some (record { place = length ds; meaning = what })) None) ≡ Some b
    apart false is none = found
    apart true is none = absurd (true≢false (sym (ap is_some (sym (ap (look ds) (same_bytes other name.bytes is)) ∙ found)) ∙ none))

    chosen : (t : Bool) → is_some (look ds name.bytes) ≡ t → look (if t then ds else declare name.bytes what ds) other ≡ Some b
    chosen true is = found
    chosen false is = look_behind ds (record { name = name.bytes; binding = record { place = length ds; meaning = what }; hidden = look ds name.bytes }) other ∙ apart (bytes_eq other name.bytes) refl is

-- a name that is not declared stands for what it is declared as
pub declared_first : (name : RawName) (what : Meaning) (ds : List Declared) → is_some (look ds name.bytes) ≡ false →
    look (declare_first name what ds) name.bytes ≡ Some (record { place = length ds; meaning = what })
declared_first name what ds none = chosen (is_some (look ds name.bytes)) refl
  where
    absent : (o : Option Binding) → is_some o ≡ false → (same : Bool) → same ≡ true → or_hidden o (cond same (Some (record { place = length ds; meaning = what })) None) ≡ Some (record { place = length ds; meaning = what })
    absent None none true is = refl
    absent None none false is = absurd (false≢true is)
    absent (Some b) none same is = absurd (true≢false none)

    chosen : (t : Bool) → is_some (look ds name.bytes) ≡ t → look (if t then ds else declare name.bytes what ds) name.bytes ≡ Some (record { place = length ds; meaning = what })
    chosen true is = absurd (true≢false (sym is ∙ none))
    chosen false is =
        look_behind ds (record { name = name.bytes; binding = record { place = length ds; meaning = what }; hidden = look ds name.bytes }) name.bytes
        ∙ absent (look ds name.bytes) none (bytes_eq name.bytes name.bytes) (equal_bytes name.bytes name.bytes refl)

pub stays_in_globals : (constant : Bool) (all : List RawGlobal) (file : Names) (other : List ℕ) (b : Binding) → look file.declared other ≡ Some b → look (enter_globals constant all file).declared other ≡ Some b
stays_in_globals constant [] file other b found = found
stays_in_globals constant (g ∷ rest) file other b found =
    stays_in_globals constant rest (enter_global constant g file) other b (stays (name_of_global g) (meaning_of_global (length file.globals) constant g) file.declared other b found)

stays_in_registers : (all : List RawRegister) (file : Names) (other : List ℕ) (b : Binding) → look file.declared other ≡ Some b → look (enter_registers all file).declared other ≡ Some b
stays_in_registers [] file other b found = found
stays_in_registers (r ∷ rest) file other b found = stays_in_registers rest (enter_register r file) other b (stays r.name (means.Register (length file.registers)) file.declared other b found)

pub stays_in_item : (kind : RawItemKind) (file : Names) (other : List ℕ) (b : Binding) → look file.declared other ≡ Some b → look (enter kind file).declared other ≡ Some b
stays_in_item (i.Globals ty all) file other b found = stays_in_globals (is_constant ty.qualifiers) all file other b found
stays_in_item (i.Registers int all) file other b found = stays_in_registers all file other b found
stays_in_item (i.Function result params body) file other b found =
    stays (name_of_head result) (means.Function (length file.functions) (has_value result) (length (params_of params))) file.declared other b found
stays_in_item (i.Proto result params) file other b found = found

pub stays_in_items : (items : List RawItem) (file : Names) (other : List ℕ) (b : Binding) → look file.declared other ≡ Some b → look (enter_all items file).declared other ≡ Some b
stays_in_items [] file other b found = found
stays_in_items (x ∷ rest) file other b found = stays_in_items rest (enter x.kind file) other b (stays_in_item x.kind file other b found)
