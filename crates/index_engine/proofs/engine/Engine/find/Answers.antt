use Rattle.search_info.specs.Passes.{knowledge}
use Rattle.leaf_search.proofs.KeyRowLemmas.{key_searches, key_traces, leaf_there, told_hit, whole_after}
use Rattle.index_engine.proofs.ReadLemmas.{free_parts, key_whole, searched_alone}
use Rattle.index_engine.proofs.engine.Engine.find.Goals as goal

pub key_spot-spot-requires-clause-fields : goal.key_spot-spot-requires-clause-fields
key_spot-spot-requires-clause-fields g c = let p = c.args.pass.now in let arm = c.in-Row in
    let whole = key_whole c.args.self.now p c.args.index c.args.key.now.tuple c.requires.key
    c.requires.own in
    whole_after p c.search.new.pass (knowledge c.args.learn.now) (knowledge c.search.new.learn)
    c.args.index c.args.mode c.args.key.now.tuple whole arm.ensures.fits arm.block arm.place
    arm.note arm.ensures.searched

pub key_spot-spot-requires-clause-leaf : goal.key_spot-spot-requires-clause-leaf
key_spot-spot-requires-clause-leaf g c = let p = c.args.pass.now in let arm = c.in-Row in
    let whole = key_whole c.args.self.now p c.args.index c.args.key.now.tuple c.requires.key
    c.requires.own in
    leaf_there p c.search.new.pass (knowledge c.args.learn.now) (knowledge c.search.new.learn)
    c.args.index c.args.mode c.args.key.now.tuple whole arm.ensures.fits arm.block arm.place
    arm.note arm.ensures.searched

pub key_spot-spot-requires-clause-known : goal.key_spot-spot-requires-clause-known
key_spot-spot-requires-clause-known g c = c.in-Row.ensures.searched.guess.hits.does.known

pub returns-in-Row-clause-searched : goal.returns-in-Row-clause-searched
returns-in-Row-clause-searched g c = let p = c.args.pass.now in let q = c.search.new.pass in
    let arm = c.in-Row in let l = knowledge c.args.learn.now in
    let m = knowledge c.search.new.learn in let i = c.args.index in
    let key = c.args.key.now.tuple in
    let whole = key_whole c.args.self.now p i key c.requires.key c.requires.own in
    key_searches p q l m i c.args.mode key whole arm.ensures.fits arm.block arm.place arm.note
    arm.ensures.searched c.key_spot-spot.result
    (c.key_spot-spot.ensures (leaf_there p q l m i c.args.mode key whole arm.ensures.fits arm.block
    arm.place arm.note arm.ensures.searched))

pub returns-in-Row-clause-trace : goal.returns-in-Row-clause-trace
returns-in-Row-clause-trace g c = let arm = c.in-Row in
    key_traces c.args.pass.now c.search.new.pass (knowledge c.args.learn.now)
    (knowledge c.search.new.learn) c.args.index c.args.mode c.args.key.now.tuple arm.block
    arm.place arm.note arm.ensures.searched c.key_spot-spot.result

pub returns-in-Row-clause-held : goal.returns-in-Row-clause-held
returns-in-Row-clause-held g c = let p = c.args.pass.now in let q = c.search.new.pass in
    let arm = c.in-Row in let i = c.args.index in let key = c.args.key.now.tuple in
    let engine = c.args.self.now in
    let whole = key_whole c.args.self.now p i key c.requires.key c.requires.own in
    searched_alone p q _ _ i key c.requires.nothing whole
    (free_parts engine p c.requires.own c.requires.nothing) (told_hit arm.block c.key_spot-spot.result arm.note)
    (returns-in-Row-clause-searched g c)

pub returns-in-Leaf-clause-held : goal.returns-in-Leaf-clause-held
returns-in-Leaf-clause-held g c = let p = c.args.pass.now in let i = c.args.index in
    let key = c.args.key.now.tuple in let engine = c.args.self.now in
    let whole = key_whole c.args.self.now p i key c.requires.key c.requires.own in
    searched_alone p c.search.new.pass _ _ i key c.requires.nothing whole
    (free_parts engine p c.requires.own c.requires.nothing) c.in-Leaf.searched c.in-Leaf.ensures.searched.0
