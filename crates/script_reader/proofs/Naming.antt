-- A map from names to ids as a function: what it has at the bytes of a name, and what one more binding changes.
use Rattle.std.proofs.Common.{◌≡◌, ℕ, Bool, true, false, cond, List, [], ◌∷◌, Option, Some, refl, sym, ap, subst, ◌∙◌}
use Rattle.std.specs.Prelude.{if◌then◌else◌, Result, Ok, Err, OnOk, IsOk}
use Rattle.std.specs.Cmp.Lexicographic.{bytes_decides}
use Rattle.std.specs.Str.{bytes_eq}
use Rattle.std.specs.Map.{lookup, KeepsOthers, IsKeyTest, AreApart}
use Rattle.std.specs.declared.alloc.Global.{Global}
use Rattle.std.specs.declared.vec.Vec.{Vec}
use Rattle.indexmap.specs.IndexMap.{IndexMap, UpdatesBy}
use Rattle.script_model.specs.Bindings.{with_name}
use Rattle.script_reader.specs.Bindings.{names_of, with_bytes}

-- what stands at the bytes of a name
pub lookup-with_bytes : (test : List ℕ → Bool) (entries : List (Vec ℕ Global × ℕ)) → lookup test (with_bytes entries) ≡ lookup (λ k. test k.items) entries
lookup-with_bytes test [] = refl
lookup-with_bytes test (e ∷ es) = ap (cond (test e.0.items) (Some e.1)) (lookup-with_bytes test es)

others_stay : {K X : Type 0} (eq : K → K → Bool) (test : K → Bool) (old new : List (K × X)) → KeepsOthers eq test old new → (other : K → Bool) → IsKeyTest eq other → AreApart test other → lookup other new ≡ lookup other old
unfolding KeepsOthers
others_stay eq test old new h = h

module _ {S : Type 0} (name : List ℕ) (id : Option ℕ) (m n : IndexMap (Vec ℕ Global) ℕ S)
    (updates : UpdatesBy (λ x y. bytes_eq x.items y.items) (λ k. bytes_eq name k.items) m n id) where
  at_name : (other : List ℕ) → bytes_eq other name ≡ true → lookup (λ (k : Vec ℕ Global). bytes_eq other k.items) n.entries ≡ id
  at_name other same = subst (λ l. lookup (λ (k : Vec ℕ Global). bytes_eq l k.items) n.entries ≡ id) (sym ((bytes_decides other name).0 same)) updates.1

  at_other : (other : List ℕ) → bytes_eq other name ≡ false → lookup (λ (k : Vec ℕ Global). bytes_eq other k.items) n.entries ≡ lookup (λ (k : Vec ℕ Global). bytes_eq other k.items) m.entries
  at_other other apart =
      others_stay _ _ m.entries n.entries updates.3 (λ k. bytes_eq other k.items)
      (λ x y found. ap (λ l. bytes_eq l y.items) ((bytes_decides other x.items).0 found))
      (λ k found. subst (λ l. bytes_eq other l ≡ false) ((bytes_decides name k.items).0 found) apart)

  at_any : (other : List ℕ) → lookup (λ (k : Vec ℕ Global). bytes_eq other k.items) n.entries ≡ (if bytes_eq other name then id else lookup (λ (k : Vec ℕ Global). bytes_eq other k.items) m.entries)
  at_any other = by (bytes_eq other name) refl
    where
      by : (b : Bool) → bytes_eq other name ≡ b → lookup (λ (k : Vec ℕ Global). bytes_eq other k.items) n.entries ≡ (if b then id else lookup (λ (k : Vec ℕ Global). bytes_eq other k.items) m.entries)
      by true same = at_name other same
      by false apart = at_other other apart

  -- a name more is bound, or one less
  pub names_of-updated : names_of (with_bytes n.entries) ≡ with_name (names_of (with_bytes m.entries)) name id
  names_of-updated = λ i other.
      (lookup-with_bytes (bytes_eq other) n.entries
      ∙ at_any other
      ∙ ap (λ o. if bytes_eq other name then id else o) (sym (lookup-with_bytes (bytes_eq other) m.entries))) i

-- what holds after a call that succeeds
pub after_ok : {T E P : Type 0} (r : Result T E) → IsOk r → OnOk r P → P
after_ok (Ok x) ok h = h
after_ok (Err e) ok h = absurd cc
