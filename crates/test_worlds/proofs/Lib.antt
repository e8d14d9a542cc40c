mod Bringing
mod Growing
