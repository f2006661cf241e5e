use Rattle.std.proofs.Common.{Global}
use Rattle.std.specs.Prelude.{map, string_bytes}
use Rattle.dm_commands.proofs.Answered.{answered_ends, query_ends_well}
use Rattle.dm_commands.proofs.Checked.{judged_ends, check_ends_well, run_text_ends}
use Rattle.dm_commands.proofs.Converse.{ends_outside, ends_at, ends_well}
use Rattle.dm_commands.proofs.Generated.{generated_ends}
use Rattle.dm_commands.proofs.Texts.{long_text_ends}
use Rattle.dm_program.proofs.top.dispatch.Goals as goal

pub returns-clause-headline : goal.returns-clause-headline
returns-clause-headline g c = λ e. rw e at c.dispatch_with.ensures.ends

pub returns-clause-outside : goal.returns-clause-outside
returns-clause-outside g c = λ outside.
    ends_outside g.K.Sink.taken g.K.Sink.faults (g.H.Shelf.files c.args.shelf.now) (g.H.Shelf.is_sound c.args.shelf.now) _ (map (string_bytes {Z = Global}) c.args.words.now) c.args.out.now c.dispatch_with.new.out outside c.dispatch_with.result c.dispatch_with.ensures.ends

pub returns-clause-generated : goal.returns-clause-generated
returns-clause-generated g c = λ asked asks.
    generated_ends g.K.Sink.taken g.K.Sink.faults (g.H.Shelf.files c.args.shelf.now) (g.H.Shelf.is_sound c.args.shelf.now) _ (map (string_bytes {Z = Global}) c.args.words.now) c.args.out.now c.dispatch_with.new.out asked asks c.dispatch_with.result c.dispatch_with.ensures.ends

pub returns-clause-first_refusal : goal.returns-clause-first_refusal
returns-clause-first_refusal g c = λ files flaw over known first.
    ends_at g.K.Sink.taken g.K.Sink.faults (g.H.Shelf.files c.args.shelf.now) (g.H.Shelf.is_sound c.args.shelf.now) _ (map (string_bytes {Z = Global}) c.args.words.now) c.args.out.now c.dispatch_with.new.out files over known flaw first c.dispatch_with.result c.dispatch_with.ensures.ends

pub returns-clause-long_text : goal.returns-clause-long_text
returns-clause-long_text g c = λ files text opening about known opens long.
    long_text_ends g.K.Sink.taken g.K.Sink.faults (g.H.Shelf.files c.args.shelf.now) (g.H.Shelf.is_sound c.args.shelf.now) _ (map (string_bytes {Z = Global}) c.args.words.now) c.args.out.now c.dispatch_with.new.out files text about known opening opens long c.dispatch_with.result c.dispatch_with.ensures.ends

pub returns-clause-judged : goal.returns-clause-judged
returns-clause-judged g c = λ asked opening bytes verdict asks known opens held short is.
    judged_ends g.K.Sink.taken g.K.Sink.faults (g.H.Shelf.files c.args.shelf.now) (g.H.Shelf.is_sound c.args.shelf.now) _ (map (string_bytes {Z = Global}) c.args.words.now) c.args.out.now c.dispatch_with.new.out asked asks known opening opens bytes held short verdict is c.dispatch_with.result c.dispatch_with.ensures.ends

pub returns-clause-complete_check : goal.returns-clause-complete_check
returns-clause-complete_check g c = λ asked opening bytes asks known opens held short sound unrisen.
    check_ends_well g.K.Sink.taken g.K.Sink.faults (g.H.Shelf.files c.args.shelf.now) (g.H.Shelf.is_sound c.args.shelf.now) _ (map (string_bytes {Z = Global}) c.args.words.now) c.args.out.now c.dispatch_with.new.out asked asks known opening opens bytes held short sound unrisen c.dispatch_with.result c.dispatch_with.ensures.ends

pub returns-clause-complete : goal.returns-clause-complete
returns-clause-complete g c = λ asked opening asks known opens short sound unrisen.
    ends_well g.K.Sink.taken g.K.Sink.faults (g.H.Shelf.files c.args.shelf.now) (g.H.Shelf.is_sound c.args.shelf.now) _ (map (string_bytes {Z = Global}) c.args.words.now) c.args.out.now c.dispatch_with.new.out asked asks known opening opens short sound unrisen c.dispatch_with.result c.dispatch_with.ensures.ends

pub returns-clause-run_texts_are_good : goal.returns-clause-run_texts_are_good
returns-clause-run_texts_are_good g c = λ asked opening bytes asks known opens held short is sound unrisen.
    run_text_ends g.K.Sink.taken g.K.Sink.faults (g.H.Shelf.files c.args.shelf.now) (g.H.Shelf.is_sound c.args.shelf.now) _ (map (string_bytes {Z = Global}) c.args.words.now) c.args.out.now c.dispatch_with.new.out asked asks known opening opens bytes held short is sound unrisen c.dispatch_with.result c.dispatch_with.ensures.ends

pub returns-clause-answered : goal.returns-clause-answered
returns-clause-answered g c = λ asked opening bytes asks known opens held short.
    answered_ends g.K.Sink.taken g.K.Sink.faults (g.H.Shelf.files c.args.shelf.now) (g.H.Shelf.is_sound c.args.shelf.now) _ (map (string_bytes {Z = Global}) c.args.words.now) c.args.out.now c.dispatch_with.new.out asked asks known opening opens bytes held short c.dispatch_with.result c.dispatch_with.ensures.ends

pub returns-clause-complete_query : goal.returns-clause-complete_query
returns-clause-complete_query g c = λ asked opening bytes asks known opens held short sound unrisen.
    query_ends_well g.K.Sink.taken g.K.Sink.faults (g.H.Shelf.files c.args.shelf.now) (g.H.Shelf.is_sound c.args.shelf.now) _ (map (string_bytes {Z = Global}) c.args.words.now) c.args.out.now c.dispatch_with.new.out asked asks known opening opens bytes held short sound unrisen c.dispatch_with.result c.dispatch_with.ensures.ends
