-- The corners of a drawing where a line has come: each stays, or goes on along the line.
use Rattle.std.proofs.Common.{◌≡◌, ◌≢◌, refl, sym, ◌∙◌, ap, subst, ◌⊎◌, inl, inr, ⊎_elim, Bool, List, ◌∷◌}
use Rattle.plane.specs.Segment.{Segment}
use Rattle.plane.specs.Crossings.{back}
use Rattle.parity_laws.specs.Rings.{In, Next, Ringwise, Corner}
use Rattle.parity_laws.specs.Coming.{both_ways_of, with_line, LineComes, Enters, CornerOfBoth}
use Rattle.parity_laws.proofs.Following.{follows, next_same, next_apart}
use Rattle.parity_laws.proofs.Wedges.{next_within, next_over, next_over_two, before_it}
use Rattle.parity_laws.proofs.OnLine.{old_in, way_in, forth_in, back_in, old_or_way, not_both, way_turned, last_in, ends_apart, way_label, enters_line}

-- ---- an old corner
-- at an end e of the line: the corner goes over e, or over e and the other end e'
abbrev pub GoesOver : List Segment → Segment → Segment → Segment → Segment → Type 0
GoesOver T d n e e' = Corner T d n e ⊎ CornerOfBoth T d n e e'

goes_over : (T : List Segment) (first : Segment) (rest : List Segment) (last : Segment) → LineComes T first rest last → (d n e e' : Segment) → In d T → In n T → Next T d n →
    In e (both_ways_of (first ∷ rest)) → In e' (both_ways_of (first ∷ rest)) → e ≢ e' → ((k : Segment) → In k (both_ways_of (first ∷ rest)) → k.a ≡ d.b → (k ≡ e) ⊎ (k ≡ e')) →
    Next (with_line T (first ∷ rest)) d e → GoesOver (with_line T (first ∷ rest)) d n e e'
goes_over T first rest last c d n e e' i j next k k' ne ends enters = by_second (follows (with_line T (first ∷ rest)) c.new.plain (back e) (way_in T (first ∷ rest) (back e) (way_turned (first ∷ rest) e k)))
  where
    there : (s : Segment) → In s (both_ways_of (first ∷ rest)) → In s (with_line T (first ∷ rest))
    there s l = way_in T (first ∷ rest) s l

    old : (s : Segment) → In s T → In s (with_line T (first ∷ rest))
    old s l = old_in T (first ∷ rest) s l

    off : (s : Segment) → In s (both_ways_of (first ∷ rest)) → In s T → ⊥
    off s l m = not_both T first rest last c s m l

    not_old : (s : Segment) → In s (both_ways_of (first ∷ rest)) → d ≡ back s → ⊥
    not_old s l f = not_both T first rest last c d i (subst (λ z. In z (both_ways_of (first ∷ rest))) (sym f) (way_turned (first ∷ rest) s l))

    old_one : (m : Segment) → In m T → Next T d m → m ≡ n
    old_one m l f = next_same T d m n c.old.plain l j f next

    over_both : Next (with_line T (first ∷ rest)) (back e) e' → GoesOver (with_line T (first ∷ rest)) d n e e'
    over_both between = by_third (follows (with_line T (first ∷ rest)) c.new.plain (back e') (there (back e') (way_turned (first ∷ rest) e' k')))
      where
        by_third : (m : Segment) × (In m (with_line T (first ∷ rest)) × Next (with_line T (first ∷ rest)) (back e') m) → GoesOver (with_line T (first ∷ rest)) d n e e'
        by_third h =
            ⊎_elim
            (λ (l : In h.0 T).
            let g = next_over_two T (with_line T (first ∷ rest)) d e e' h.0 c.old.plain c.new.plain old (old d i) (there e k) (there e' k') (old h.0 l) (off e k) (off e' k')
            (λ f. off e k (subst (λ z. In z T) f l)) enters between h.1.1 l
            in
            inr (record { enters = enters; between = between; leaves = subst (λ z. Next (with_line T (first ∷ rest)) (back e') z) (old_one h.0 l g) h.1.1 }))
            (λ (l : In h.0 (both_ways_of (first ∷ rest))).
            ⊎_elim
            (λ (f : h.0 ≡ e).
            absurd (not_old e' k' (next_apart (with_line T (first ∷ rest)) d (back e') e c.new.plain (old d i) (there (back e') (way_turned (first ∷ rest) e' k')) enters (subst (λ z. Next (with_line T (first ∷ rest)) (back e') z) f h.1.1))))
            (λ (f : h.0 ≡ e').
            absurd (ne (ap back (next_apart (with_line T (first ∷ rest)) (back e) (back e') e' c.new.plain (there (back e) (way_turned (first ∷ rest) e k)) (there (back e') (way_turned (first ∷ rest) e' k')) between (subst (λ z. Next (with_line T (first ∷ rest)) (back e') z) f h.1.1)))))
            (ends h.0 l (h.1.1.meets ∙ between.meets ∙ enters.meets)))
            (old_or_way T (first ∷ rest) h.0 h.1.0)

    by_second : (m : Segment) × (In m (with_line T (first ∷ rest)) × Next (with_line T (first ∷ rest)) (back e) m) → GoesOver (with_line T (first ∷ rest)) d n e e'
    by_second h =
        ⊎_elim
        (λ (l : In h.0 T).
        let g = next_over T (with_line T (first ∷ rest)) d e h.0 c.old.plain c.new.plain old (old d i) (there e k) (old h.0 l) (off e k) enters h.1.1 in
        inl (record { enters = enters; leaves = subst (λ z. Next (with_line T (first ∷ rest)) (back e) z) (old_one h.0 l g) h.1.1 }))
        (λ (l : In h.0 (both_ways_of (first ∷ rest))).
        ⊎_elim
        (λ (f : h.0 ≡ e).
        absurd (not_old e k (next_apart (with_line T (first ∷ rest)) d (back e) e c.new.plain (old d i) (there (back e) (way_turned (first ∷ rest) e k)) enters (subst (λ z. Next (with_line T (first ∷ rest)) (back e) z) f h.1.1))))
        (λ (f : h.0 ≡ e'). over_both (subst (λ z. Next (with_line T (first ∷ rest)) (back e) z) f h.1.1))
        (ends h.0 l (h.1.1.meets ∙ enters.meets)))
        (old_or_way T (first ∷ rest) h.0 h.1.0)

-- each old corner stays, or goes over one end of the line or over both
pub old_corner : (T : List Segment) (first : Segment) (rest : List Segment) (last : Segment) → LineComes T first rest last → (d n : Segment) → In d T → In n T → Next T d n →
    Next (with_line T (first ∷ rest)) d n ⊎ (GoesOver (with_line T (first ∷ rest)) d n first (back last) ⊎ GoesOver (with_line T (first ∷ rest)) d n (back last) first)
old_corner T first rest last c d n i j next = by_next (follows (with_line T (first ∷ rest)) c.new.plain d (old_in T (first ∷ rest) d i))
  where
    first_way : In first (both_ways_of (first ∷ rest))
    first_way = forth_in (first ∷ rest) first (inl refl)

    last_way : In (back last) (both_ways_of (first ∷ rest))
    last_way = back_in (first ∷ rest) last (last_in T first rest last c)

    ends : (k : Segment) → In k (both_ways_of (first ∷ rest)) → k.a ≡ d.b → (k ≡ first) ⊎ (k ≡ back last)
    ends k l f = enters_line T first rest last c d k i l f

    other_ends : (k : Segment) → In k (both_ways_of (first ∷ rest)) → k.a ≡ d.b → (k ≡ back last) ⊎ (k ≡ first)
    other_ends k l f = ⊎_elim (λ (g : k ≡ first). inr g) (λ (g : k ≡ back last). inl g) (ends k l f)

    by_next : (m : Segment) × (In m (with_line T (first ∷ rest)) × Next (with_line T (first ∷ rest)) d m) →
        Next (with_line T (first ∷ rest)) d n ⊎ (GoesOver (with_line T (first ∷ rest)) d n first (back last) ⊎ GoesOver (with_line T (first ∷ rest)) d n (back last) first)
    by_next h =
        ⊎_elim
        (λ (l : In h.0 T). inl (subst (λ z. Next (with_line T (first ∷ rest)) d z) (next_same T d h.0 n c.old.plain l j (next_within T (with_line T (first ∷ rest)) d h.0 (old_in T (first ∷ rest)) h.1.1) next) h.1.1))
        (λ (l : In h.0 (both_ways_of (first ∷ rest))).
        ⊎_elim
        (λ (f : h.0 ≡ first). inr (inl (goes_over T first rest last c d n first (back last) i j next first_way last_way (ends_apart T first rest last c) ends (subst (λ z. Next (with_line T (first ∷ rest)) d z) f h.1.1))))
        (λ (f : h.0 ≡ back last). inr (inr (goes_over T first rest last c d n (back last) first i j next last_way first_way (λ g. ends_apart T first rest last c (sym g)) other_ends (subst (λ z. Next (with_line T (first ∷ rest)) d z) f h.1.1))))
        (ends h.0 l h.1.1.meets))
        (old_or_way T (first ∷ rest) h.0 h.1.0)

-- what a corner that doesn't stay does: it enters the line, and comes out of it
pub record Passes (T : List Segment) (first : Segment) (rest : List Segment) (last : Segment) (d n : Segment) : Type 0 where
  pub enters : Enters (with_line T (first ∷ rest)) first last d
  pub out : Segment
  pub out_way : In out (both_ways_of (first ∷ rest))
  pub leaves : Next (with_line T (first ∷ rest)) out n

pub stays_or_passes : (T : List Segment) (first : Segment) (rest : List Segment) (last : Segment) → LineComes T first rest last → (d n : Segment) → In d T → In n T → Next T d n →
    Next (with_line T (first ∷ rest)) d n ⊎ Passes T first rest last d n
stays_or_passes T first rest last c d n i j next =
    ⊎_elim
    (λ (k : Next (with_line T (first ∷ rest)) d n). inl k)
    (λ (g : GoesOver (with_line T (first ∷ rest)) d n first (back last) ⊎ GoesOver (with_line T (first ∷ rest)) d n (back last) first).
    inr (⊎_elim
    (λ (k : GoesOver (with_line T (first ∷ rest)) d n first (back last)). passes first (back last) first_way last_way (λ h. inl h) k)
    (λ (k : GoesOver (with_line T (first ∷ rest)) d n (back last) first). passes (back last) first last_way first_way (λ h. inr h) k)
    g))
    (old_corner T first rest last c d n i j next)
  where
    first_way : In first (both_ways_of (first ∷ rest))
    first_way = forth_in (first ∷ rest) first (inl refl)

    last_way : In (back last) (both_ways_of (first ∷ rest))
    last_way = back_in (first ∷ rest) last (last_in T first rest last c)

    passes : (e e' : Segment) → In e (both_ways_of (first ∷ rest)) → In e' (both_ways_of (first ∷ rest)) → (Next (with_line T (first ∷ rest)) d e → Enters (with_line T (first ∷ rest)) first last d) →
        GoesOver (with_line T (first ∷ rest)) d n e e' → Passes T first rest last d n
    passes e e' k k' at h =
        ⊎_elim
        (λ (m : Corner (with_line T (first ∷ rest)) d n e). record { enters = at m.enters; out = back e; out_way = way_turned (first ∷ rest) e k; leaves = m.leaves })
        (λ (m : CornerOfBoth (with_line T (first ∷ rest)) d n e e'). record { enters = at m.enters; out = back e'; out_way = way_turned (first ∷ rest) e' k'; leaves = m.leaves })
        h

-- ---- labels
pub enters_way : (T : List Segment) (first : Segment) (rest : List Segment) (last : Segment) → LineComes T first rest last → (d : Segment) → Enters (with_line T (first ∷ rest)) first last d →
    (e : Segment) × (In e (both_ways_of (first ∷ rest)) × Next (with_line T (first ∷ rest)) d e)
enters_way T first rest last c d h =
    ⊎_elim
    (λ (k : Next (with_line T (first ∷ rest)) d first). (first, (forth_in (first ∷ rest) first (inl refl), k)))
    (λ (k : Next (with_line T (first ∷ rest)) d (back last)). (back last, (back_in (first ∷ rest) last (last_in T first rest last c), k)))
    h

-- a label of the new rings has one value at an old step that enters the line and on the line
pub entry_label : (T : List Segment) (first : Segment) (rest : List Segment) (last : Segment) (h : Segment → Bool) (v : Bool) → LineComes T first rest last → Ringwise (with_line T (first ∷ rest)) h →
    h first ≡ v → h (back first) ≡ v → (d : Segment) → In d T → Enters (with_line T (first ∷ rest)) first last d → h d ≡ v
entry_label T first rest last h v c rings e f d i enters =
    let k = enters_way T first rest last c d enters in
    rings d k.0 (old_in T (first ∷ rest) d i) (way_in T (first ∷ rest) k.0 k.1.0) k.1.1 ∙ way_label T first rest last h v c rings e f k.0 k.1.0

-- a label of the new rings with one value on the line, both ways, is one for each old ring
pub old_ringwise : (T : List Segment) (first : Segment) (rest : List Segment) (last : Segment) (h : Segment → Bool) (v : Bool) → LineComes T first rest last → Ringwise (with_line T (first ∷ rest)) h →
    h first ≡ v → h (back first) ≡ v → Ringwise T h
old_ringwise T first rest last h v c rings e f d n i j next =
    ⊎_elim
    (λ (k : Next (with_line T (first ∷ rest)) d n). rings d n (old_in T (first ∷ rest) d i) (old_in T (first ∷ rest) n j) k)
    (λ (k : Passes T first rest last d n).
    entry_label T first rest last h v c rings e f d i k.enters
    ∙ sym (sym (rings k.out n (way_in T (first ∷ rest) k.out k.out_way) (old_in T (first ∷ rest) n j) k.leaves) ∙ way_label T first rest last h v c rings e f k.out k.out_way))
    (stays_or_passes T first rest last c d n i j next)

-- what follows the line is what followed a step that now enters it
pub leaves_line : (T : List Segment) (first : Segment) (rest : List Segment) (last : Segment) → LineComes T first rest last → (d n : Segment) → In d (both_ways_of (first ∷ rest)) → In n T →
    Next (with_line T (first ∷ rest)) d n → (m : Segment) × (In m T × Next T m n × Enters (with_line T (first ∷ rest)) first last m)
leaves_line T first rest last c d n i j next =
    let m = before_it T n c.old.plain j in (
      m.0,
      (
        m.1.0,
        m.1.1,
        ⊎_elim
            (λ (k : Next (with_line T (first ∷ rest)) m.0 n).
            absurd (not_both T first rest last c m.0 m.1.0 (subst (λ z. In z (both_ways_of (first ∷ rest))) (next_apart (with_line T (first ∷ rest)) d m.0 n c.new.plain (way_in T (first ∷ rest) d i) (old_in T (first ∷ rest) m.0 m.1.0) next k) i)))
            (λ (k : Passes T first rest last m.0 n). k.enters)
            (stays_or_passes T first rest last c m.0 n m.1.0 j m.1.1),
      ),
    )

-- a label of the old rings that has one value where the line is entered, and on the line, is one for each new ring
pub new_ringwise : (T : List Segment) (first : Segment) (rest : List Segment) (last : Segment) (h : Segment → Bool) (v : Bool) → LineComes T first rest last → Ringwise T h →
    ((s : Segment) → In s (both_ways_of (first ∷ rest)) → h s ≡ v) → ((d : Segment) → In d T → Enters (with_line T (first ∷ rest)) first last d → h d ≡ v) → Ringwise (with_line T (first ∷ rest)) h
new_ringwise T first rest last h v c rings line entry d n i j next =
    ⊎_elim
    (λ (k : In d T). ⊎_elim (λ (l : In n T). rings d n k l (next_within T (with_line T (first ∷ rest)) d n (old_in T (first ∷ rest)) next)) (λ (l : In n (both_ways_of (first ∷ rest))). entry d k (entered k l) ∙ sym (line n l)) (old_or_way T (first ∷ rest) n j))
    (λ (k : In d (both_ways_of (first ∷ rest))). ⊎_elim (λ (l : In n T). left_by k l) (λ (l : In n (both_ways_of (first ∷ rest))). line d k ∙ sym (line n l)) (old_or_way T (first ∷ rest) n j))
    (old_or_way T (first ∷ rest) d i)
  where
    entered : In d T → In n (both_ways_of (first ∷ rest)) → Enters (with_line T (first ∷ rest)) first last d
    entered k l =
        ⊎_elim
        (λ (e : n ≡ first). inl (subst (λ z. Next (with_line T (first ∷ rest)) d z) e next))
        (λ (e : n ≡ back last). inr (subst (λ z. Next (with_line T (first ∷ rest)) d z) e next))
        (enters_line T first rest last c d n k l next.meets)

    left_by : In d (both_ways_of (first ∷ rest)) → In n T → h d ≡ h n
    left_by k l = let m = leaves_line T first rest last c d n k l next in line d k ∙ sym (sym (rings m.0 n m.1.0 l m.1.1) ∙ entry m.0 m.1.0 m.1.2)
