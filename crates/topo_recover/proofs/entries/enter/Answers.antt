use Rattle.std.proofs.Common.{rules, ◌≡◌, ◌<◌, ◌+◌, ◌^◌, ◌++◌, ◌∷◌, [], ℕ, List, false, Ok, IfSome, IsTrue, length, take, drop, if◌then◌else◌, sym, ◌∙◌, ap, subst, arith}
use Rattle.std.proofs.lemmas.List.{take_at}
use Rattle.topo_base.specs.declared.edit.Entry.{Entry}
use Rattle.drawing.specs.InRange.{is_spelled}
use Rattle.history_model.specs.Legal.{journal_length}
use Rattle.drawing.specs.Replay.{replay}
use Rattle.history_model.specs.Spelling.{number_bytes, entry_bytes}
use Rattle.history_model.specs.Journal.{may_stand}
use Rattle.topo_recover.specs.Reached.{IsReadTo}
use Rattle.topo_recover.proofs.Gates.{bad_at, bad_here, framed_body, framed_here, unlike, done_may, next_place, short_body, read_on}
use Rattle.topo_recover.proofs.entries.enter.Goals as goal

pub returns-in_default-clause-bad : goal.returns-in_default-clause-bad
returns-in_default-clause-bad g c told offset same =
    let bytes = g.D.Disk.seen c.args.begun.now.disk in let m = c.args.board.now.bounds in
    let within : c.args.gate < length bytes = omega (arith, c.requires.within, c.requires.size told) in
    bad_at m bytes c.args.gate offset (bad_here m bytes c.args.gate c.args.board.now.history c.requires.small (c.requires.read told) within (c.requires.opened told)
    (λ x next framed short may. c.in_ok-long.ensures.none told (ap Ok c.in_default.is) x next framed short)) same

pub returns-in_default-2-clause-bad : goal.returns-in_default-2-clause-bad
returns-in_default-2-clause-bad g c told offset same =
    let bytes = g.D.Disk.seen c.args.begun.now.disk in let m = c.args.board.now.bounds in let gate = c.args.gate in let n = c.in-Some.long in
    let within : gate < length bytes = omega (arith, c.requires.within, c.requires.size told) in
    let small : n < 2 ^ 32 = subst (λ o. IfSome o (λ (k : ℕ). k < 2 ^ 32)) c.in-Some.is c.in_ok-long.ensures.short in
    let number : number_bytes n ≡ take 4 (drop (gate + 1) bytes) = subst (λ o. IfSome o (λ (k : ℕ). number_bytes k ≡ take 4 (drop (gate + 1) bytes))) c.in-Some.is (c.in_ok-long.ensures.number told) in
    let same_bytes : g.D.Disk.seen c.read_length.new.begun.disk ≡ bytes = c.in_ok-long.ensures.seen told in
    let long : length c.deref_mut.result.now ≡ n = search rules in
    let whole : length c.read_at.new.into ≡ c.in_ok-body.body.len = search rules in
    let copied = take_at c.read_at.new.into (drop (length c.read_at.new.into) c.in_ok-body.body.items) c.in_ok-body.body.len whole in
    let read : c.deref.result.now ≡ c.read_at.new.into = search (rules, c.deref.ensures.value, c.deref_mut.ensures.writes_back, copied) in
    let body : c.deref.result.now ≡ take n (drop (gate + 5) bytes) =
    read ∙ c.in_ok-read_at.ensures.bytes told ∙ ap (λ (k : ℕ). take k (drop (gate + 5) (g.D.Disk.seen c.read_length.new.begun.disk))) long ∙ ap (λ (l : List ℕ). take n (drop (gate + 5) l)) same_bytes in
    bad_at m bytes gate offset (bad_here m bytes gate c.args.board.now.history c.requires.small (c.requires.read told) within (c.requires.opened told)
    (λ x next framed short may. c.in_ok-entry.ensures.none (ap Ok c.in_default-2.is) x framed.spelled (framed_body bytes c.deref.result.now gate n x next small short number body framed))) same

pub returns-then-not-branch-clause-bad : goal.returns-then-not-branch-clause-bad
returns-then-not-branch-clause-bad g c told offset same =
    let bytes = g.D.Disk.seen c.args.begun.now.disk in let m = c.args.board.now.bounds in let gate = c.args.gate in let n = c.in-Some.long in
    let history = c.args.board.now.history in let entry = c.in-Some-2.entry in
    let within : gate < length bytes = omega (arith, c.requires.within, c.requires.size told) in
    let small : n < 2 ^ 32 = subst (λ o. IfSome o (λ (k : ℕ). k < 2 ^ 32)) c.in-Some.is c.in_ok-long.ensures.short in
    let number : number_bytes n ≡ take 4 (drop (gate + 1) bytes) = subst (λ o. IfSome o (λ (k : ℕ). number_bytes k ≡ take 4 (drop (gate + 1) bytes))) c.in-Some.is (c.in_ok-long.ensures.number told) in
    let same_bytes : g.D.Disk.seen c.read_length.new.begun.disk ≡ bytes = c.in_ok-long.ensures.seen told in
    let long : length c.deref_mut.result.now ≡ n = search rules in
    let whole : length c.read_at.new.into ≡ c.in_ok-body.body.len = search rules in
    let copied = take_at c.read_at.new.into (drop (length c.read_at.new.into) c.in_ok-body.body.items) c.in_ok-body.body.len whole in
    let read : c.deref.result.now ≡ c.read_at.new.into = search (rules, c.deref.ensures.value, c.deref_mut.ensures.writes_back, copied) in
    let body : c.deref.result.now ≡ take n (drop (gate + 5) bytes) =
    read ∙ c.in_ok-read_at.ensures.bytes told ∙ ap (λ (k : ℕ). take k (drop (gate + 5) (g.D.Disk.seen c.read_length.new.begun.disk))) long ∙ ap (λ (l : List ℕ). take n (drop (gate + 5) l)) same_bytes in
    let found : IsTrue (is_spelled entry) × (entry_bytes entry ≡ c.deref.result.now) =
    subst (λ o. IfSome o (λ (x : Entry). IsTrue (is_spelled x) × (entry_bytes x ≡ c.deref.result.now))) c.in-Some-2.is c.in_ok-entry.ensures.some in
    let undone : may_stand m (replay history) gate entry ≡ false = sym (done_may m history entry gate c.requires.place) ∙ sym c.in_ok-try_entry.ensures.done ∙ c.if-not-branch.true in
    bad_at m bytes gate offset (bad_here m bytes gate history c.requires.small (c.requires.read told) within (c.requires.opened told)
    (λ x next framed short may. unlike m (replay history) gate entry x found.0 framed.spelled (found.1 ∙ sym (framed_body bytes c.deref.result.now gate n x next small short number body framed)) undone may)) same

pub returns-clause-place : goal.returns-clause-place
returns-clause-place g c =
    let history = c.args.board.now.history in let entry = c.in-Some-2.entry in
    let found : IsTrue (is_spelled entry) × (entry_bytes entry ≡ c.deref.result.now) =
    subst (λ o. IfSome o (λ (x : Entry). IsTrue (is_spelled x) × (entry_bytes x ≡ c.deref.result.now))) c.in-Some-2.is c.in_ok-entry.ensures.some in
    let long : length c.deref.result.now ≡ c.in-Some.long = search rules in
    let more : c.try_entry.new.board.history ≡ history ++ entry ∷ [] = c.in_ok-try_entry.ensures.history ∙ ap (λ b. if b then history ++ entry ∷ [] else history) c.if-not-branch.false in
    omega (arith, next_place history entry c.args.gate c.requires.place, ap length found.1, long, ap journal_length more)

pub returns-clause-read : goal.returns-clause-read
returns-clause-read g c told =
    let bytes = g.D.Disk.seen c.args.begun.now.disk in let m = c.args.board.now.bounds in let gate = c.args.gate in let n = c.in-Some.long in
    let history = c.args.board.now.history in let entry = c.in-Some-2.entry in
    let within : gate < length bytes = omega (arith, c.requires.within, c.requires.size told) in
    let fits : gate + 5 + n < c.args.size = subst (λ o. IfSome o (λ (k : ℕ). gate + 5 + k < c.args.size)) c.in-Some.is c.in_ok-long.ensures.fits in
    let number : number_bytes n ≡ take 4 (drop (gate + 1) bytes) = subst (λ o. IfSome o (λ (k : ℕ). number_bytes k ≡ take 4 (drop (gate + 1) bytes))) c.in-Some.is (c.in_ok-long.ensures.number told) in
    let same_bytes : g.D.Disk.seen c.read_length.new.begun.disk ≡ bytes = c.in_ok-long.ensures.seen told in
    let long : length c.deref_mut.result.now ≡ n = search rules in
    let whole : length c.read_at.new.into ≡ c.in_ok-body.body.len = search rules in
    let copied = take_at c.read_at.new.into (drop (length c.read_at.new.into) c.in_ok-body.body.items) c.in_ok-body.body.len whole in
    let read : c.deref.result.now ≡ c.read_at.new.into = search (rules, c.deref.ensures.value, c.deref_mut.ensures.writes_back, copied) in
    let body : c.deref.result.now ≡ take n (drop (gate + 5) bytes) =
    read ∙ c.in_ok-read_at.ensures.bytes told ∙ ap (λ (k : ℕ). take k (drop (gate + 5) (g.D.Disk.seen c.read_length.new.begun.disk))) long ∙ ap (λ (l : List ℕ). take n (drop (gate + 5) l)) same_bytes in
    let found : IsTrue (is_spelled entry) × (entry_bytes entry ≡ c.deref.result.now) =
    subst (λ o. IfSome o (λ (x : Entry). IsTrue (is_spelled x) × (entry_bytes x ≡ c.deref.result.now))) c.in-Some-2.is c.in_ok-entry.ensures.some in
    let may : IsTrue (may_stand m (replay history) gate entry) = sym (done_may m history entry gate c.requires.place) ∙ sym c.in_ok-try_entry.ensures.done ∙ c.if-not-branch.false in
    let more : c.try_entry.new.board.history ≡ history ++ entry ∷ [] = c.in_ok-try_entry.ensures.history ∙ ap (λ b. if b then history ++ entry ∷ [] else history) c.if-not-branch.false in
    let framed = framed_here bytes c.deref.result.now gate n entry (omega (arith, fits, c.requires.size told)) (c.requires.opened told) number body found.1 found.0 in
    subst (IsReadTo m bytes (gate + 5 + n)) (sym more)
    (read_on m bytes gate (gate + 5 + n) history entry (c.requires.read told) within framed.0 (short_body m (replay history) gate entry c.requires.small may) may framed.1)
